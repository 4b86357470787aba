-- What a session found out about the front of its bytes stays so when more come.
use Rattle.std.proofs.Common.{ℕ, List, ◌++◌, Option, None, Some, arith, length-append}
use Rattle.proto.specs.declared.lines.Asked.TheVariants.{Behind}
use Rattle.proto.specs.declared.storage.Fate.TheVariants.{Put}
use Rattle.proto.specs.declared.front.Pending.{Pending}
use Rattle.proto.specs.Words.{line_limit}
use Rattle.proto.specs.Fronts.{IsKnown}
use Rattle.proto.proofs.LineLaws.{asked_kept}

-- a line that announces a block to put announces it still when more bytes come
pub known_more : (pending : Option Pending) (bytes more : List ℕ)
    → IsKnown pending bytes
    → IsKnown pending (bytes ++ more)
known_more None bytes more known = tt
known_more (Some p) bytes more known = (
  asked_kept line_limit bytes more (Behind (record { size = p.size; fate = Put p.key p.verb p.silent }), p.line)
      known.0,
  omega (arith, length-append bytes more, known.1),
  known.2,
)
