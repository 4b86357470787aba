use Rattle.std.proofs.Common.{◌≡◌, ◌++◌, List, ℕ, append_assoc}
use Rattle.schedules.proofs.printing.push_connection_line.Goals as goal

joined : (t u v w x y a b d e f : List ℕ)
    → u ≡ t ++ a
    → v ≡ u ++ b
    → w ≡ v ++ d
    → x ≡ w ++ e
    → y ≡ x ++ f
    → y ≡ t ++ ((((a ++ b) ++ d) ++ e) ++ f)
joined t u v w x y a b d e f h i j k l = rw (l, k, j, i, h) (simp append_assoc)

-- the labels and numbers that are written, one after another, are the connection's line
pub returns : goal.returns
returns c =
    let answered = rw c.answered.ensures at c.in_ok-push_number-4.ensures in
    rw (← c.connection.view_is, ← c.as_slice-calls.ensures.value)
    (joined _ _ _ _ _ _ _ _ _ _ _ c.in_ok-push_number.ensures c.in_ok-push_number-2.ensures
    c.in_ok-push_number-3.ensures answered c.in_ok-push.ensures.items)
