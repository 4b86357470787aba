-- Whether two lists of members are the same.
use Rattle.std.proofs.Common.{◌≡◌, true, ℕ, List, ap, sym, ◌∙◌}
use Rattle.successions.specs.declared.members.Members.{Members}
use Rattle.successions.specs.Lists.{is_same}
use Rattle.successions.proofs.Basics.{is_same_true, is_same_refl}

pub members_same : (x y : Members) → is_same x.processes y.processes ≡ true → x ≡ y
members_same x y e = ap (λ (xs : List ℕ). let m : Members = record { processes = xs } in m)
    (is_same_true x.processes y.processes e)

pub same_members : (x y : Members) → x ≡ y → is_same x.processes y.processes ≡ true
same_members x y e = ap (λ (z : Members). is_same x.processes z.processes) (sym e) ∙ is_same_refl x.processes
