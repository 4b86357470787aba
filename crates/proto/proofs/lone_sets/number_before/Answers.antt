use Rattle.std.proofs.Common.{◌++◌, ◌∙◌, sym, ap, arith}
use Rattle.proto.proofs.lone_sets.number_before.Goals as goal

-- the digits at the front spell the number, and the text stands after them
pub returns : goal.returns
returns c = record {
  field = c.split_at.result.0.now;
  bytes_are = c.split_at.ensures.by_index.0 ∙ ap (λ xs. c.split_at.result.0.now ++ xs) c.in_ok-rest.ensures;
  number_is = sym c.in_ok-number.ensures;
  short = omega (arith, c.split_at.ensures.front_len, c.digits_at.ensures.few);
}
