-- A store that is to be made may be refused: so a connection that refuses it goes on as its session says.
use Rattle.std.proofs.Common.{◌≡◌, true, false, [], ◌∷◌, ◌++◌, Some, refl, ap, sym, ◌∙◌, subst, append-nil}
use Rattle.std.specs.Prelude.{not}
use Rattle.table.specs.Operations.{is_update}
use Rattle.table.specs.declared.operations.Call.{Call}
use Rattle.table.specs.declared.operations.Op.{Op}
use Rattle.table.specs.declared.operations.Op.TheVariants.{Read, Set, Add, Replace, Append, Prepend, Cas, Incr, Decr}
use Rattle.table.specs.declared.operations.Op.TheVariants.{Delete, Flush}
use Rattle.proto.specs.Turns.{Calls, Refused, is_store, calls_of}
use Rattle.proto.specs.Sessions.{CanRefuse}
use Rattle.proto.specs.Runs.{Refuse, Acts}
use Rattle.proto.proofs.WriteLaws.{calls_of_more}
use Rattle.interleavings.specs.Connections.{Connection, refused}
use Rattle.interleavings.specs.Served.{unrefused, AreOutcomes}
use Rattle.interleavings.proofs.served.Outcomes.{replies_refused, unrefused_last, outcomes_refused}
use Rattle.interleavings.proofs.served.Connected.{IsConnected, run_with}
use Rattle.interleavings.proofs.served.Forms.{IsDue, due_form}

-- a store is an update
store_updates : (op : Op) → is_store op ≡ true → is_update op ≡ true
store_updates Read e = absurd (let no : false ≡ true = e in cc)
store_updates (Set flags bytes) e = refl
store_updates (Add flags bytes) e = refl
store_updates (Replace flags bytes) e = refl
store_updates (Append bytes) e = refl
store_updates (Prepend bytes) e = refl
store_updates (Cas flags bytes unique) e = refl
store_updates (Incr amount) e = refl
store_updates (Decr amount) e = refl
store_updates Delete e = refl
store_updates Flush e = refl

-- a store was refused
pub connected_refused : (call : Call) (k : Connection)
    → k.due ≡ Some call
    → is_store call.op ≡ true
    → IsConnected k
    → IsConnected (refused k)
connected_refused call k e store t = record {
  given = t.given;
  is = Acts (run_with k t.given) Refuse t.is
      (subst CanRefuse (sym d.asked) (d.fits ∙ ap not (store_updates call.op store)));
  calls =
      ap (λ cs. unrefused cs (k.outcomes ++ Refused ∷ [])) calls
      ∙ unrefused_last (calls_of d.before) k.outcomes call d.known
      ∙ sym d.calls
      ∙ sym (append-nil k.calls);
  got = t.got ∙ sym (replies_refused k.outcomes);
  outcomes = subst (λ cs. AreOutcomes cs (k.outcomes ++ Refused ∷ [])) (sym calls)
      (outcomes_refused (calls_of d.before) k.outcomes call d.known store
      (subst (λ cs. AreOutcomes cs k.outcomes) calls t.outcomes));
  few = t.few;
}
  where
    d : IsDue k t.given call
    d = due_form k t call e

    calls : calls_of t.given ≡ calls_of d.before ++ call ∷ []
    calls = ap calls_of d.given_is ∙ calls_of_more d.before (Calls call d.form ∷ [])
