-- What an update's decision keeps: it makes an entry.
use Rattle.std.proofs.Common.{◌≡◌, ℕ, ◌+◌, ◌-◌, ◌^◌, ◌%◌, ◌<◌, ◌≤◌, nat_le, Bool, true, false, cond, List, [], ◌∷◌}
use Rattle.std.proofs.Common.{◌++◌, length, Option, Some, None, refl, ap, ◌∙◌, arith}
use Rattle.std.specs.Prelude.{decimal}
use Rattle.std.proofs.lemmas.Bool.{leb-true, ltb-true, and_parts}
use Rattle.std.proofs.lemmas.Nat.{mod_below, pow_pos}
use Rattle.std.proofs.lemmas.Option.{same_Some}
use Rattle.std.proofs.lemmas.Fmt.{length-decimal-le}
use Rattle.table.specs.Items.{limit, Item}
use Rattle.table.specs.Numbers.{counter_of, number_of}
use Rattle.table.specs.Operations.{Fits, is_flush, is_update, is_value, is_all}
use Rattle.table.specs.Decisions.{Decision, decision, put, grown, counted, raised, lowered}
use Rattle.table.specs.declared.operations.Op.{Op}
use Rattle.table.specs.declared.operations.Op.TheVariants.{Read, Set, Add, Replace, Append, Prepend, Cas, Incr, Decr}
use Rattle.table.specs.declared.operations.Op.TheVariants.{Delete, Flush}
use Rattle.table.specs.declared.operations.Call.{Call}
use Rattle.table.specs.declared.operations.Target.{Target}
use Rattle.table.specs.declared.operations.Reply.{Reply}
use Rattle.table.specs.declared.operations.Change.{Change}
use Rattle.node.specs.Lawful.{IsCall}
use Rattle.table.specs.declared.operations.Reply.TheVariants.{Stored, Exists}
use Rattle.table.specs.declared.operations.Change.TheVariants.{Keep}
use Rattle.versions.specs.Entries.{PutsOwn, is_clear, is_flushed}

-- a decision whose reply and change may stand in an entry of this number; a clear exactly if all is flushed
pub record IsDecided (flush : Bool) (number : ℕ) (d : Decision) : Type 0 where
  pub answered : is_value d.0 ≡ false
  pub put : PutsOwn number d.1
  pub cleared : is_clear d.1 ≡ flush
  pub flushed : is_flushed d.0 ≡ flush

grown_step : (b : Bool) (flags number : ℕ) (bytes : List ℕ)
    → (b ≡ true → length bytes ≤ limit)
    → nat_le (length bytes) limit ≡ b
    → IsDecided false number (grown flags bytes number)
grown_step true flags number bytes low is =
    rw is (record { answered = refl; put = (refl, low refl); cleared = refl; flushed = refl })
grown_step false flags number bytes low is =
    rw is (record { answered = refl; put = tt; cleared = refl; flushed = refl })

grown_decided : (flags number : ℕ) (bytes : List ℕ) → IsDecided false number (grown flags bytes number)
grown_decided flags number bytes = grown_step _ flags number bytes (λ e. leb-true _ _ e) refl

-- a number below 2^64 is short
short : (value : ℕ) → value < 2 ^ 64 → length (decimal value) ≤ limit
short value low = let l : length (decimal value) ≤ 20 = length-decimal-le 20 value (omega arith) (omega (arith, low))
    low in omega (arith, l)

counted_decided : (flags value number : ℕ) → value < 2 ^ 64 → IsDecided false number (counted flags value number)
counted_decided flags value number low =
    record { answered = refl; put = (refl, short value low); cleared = refl; flushed = refl }

below_step : (b : Bool) (bound value v : ℕ) → (b ≡ true → value < bound) → cond b (Some value) None ≡ Some v → v < bound
below_step true bound value v low e = let same : value ≡ v = same_Some value v e in omega (arith, low refl)
below_step false bound value v low e = absurd cc

number_below : (bound : ℕ) (bytes : List ℕ) (v : ℕ) → number_of bound bytes ≡ Some v → v < bound
number_below bound [] v e = absurd cc
number_below bound (c ∷ cs) v e = below_step _ bound _ v (λ t. ltb-true _ _ (and_parts _ _ t).1) e

counter_step : (b : Bool) (found : Option ℕ) (v : ℕ)
    → (found ≡ Some v → v < 2 ^ 64)
    → cond b found None ≡ Some v
    → v < 2 ^ 64
counter_step true found v low e = low e
counter_step false found v low e = absurd cc

counter_below : (bytes : List ℕ) (v : ℕ) → counter_of bytes ≡ Some v → v < 2 ^ 64
counter_below bytes v e = counter_step _ _ v (number_below (2 ^ 64) bytes v) e

raised_decided : (flags amount number : ℕ) (old : Option ℕ) → IsDecided false number (raised flags old amount number)
raised_decided flags amount number None = record { answered = refl; put = tt; cleared = refl; flushed = refl }
raised_decided flags amount number (Some old) =
    counted_decided flags ((old + amount) % (2 ^ 64)) number (mod_below (old + amount) (2 ^ 64) (pow_pos 64))

lowered_decided : (flags amount number : ℕ) (old : Option ℕ)
    → ((v : ℕ) → old ≡ Some v → v < 2 ^ 64)
    → IsDecided false number (lowered flags old amount number)
lowered_decided flags amount number None low = record { answered = refl; put = tt; cleared = refl; flushed = refl }
lowered_decided flags amount number (Some old) low =
    counted_decided flags (old - amount) number (omega (arith, low old refl))

cas_step : (b : Bool) (flags number : ℕ) (bytes : List ℕ)
    → length bytes ≤ limit
    → IsDecided false number (cond b (Stored, put flags bytes number) (Exists, Keep))
cas_step true flags number bytes fits = record { answered = refl; put = (refl, fits); cleared = refl; flushed = refl }
cas_step false flags number bytes fits = record { answered = refl; put = tt; cleared = refl; flushed = refl }

-- every update that fits has such a decision
pub decided : (item : Option Item) (op : Op) (number : ℕ)
    → Fits op
    → is_update op ≡ true
    → IsDecided (is_flush op) number (decision item op number)
decided item Read number fits is = absurd cc
decided None (Set flags bytes) number fits is =
    record { answered = refl; put = (refl, fits); cleared = refl; flushed = refl }
decided (Some old) (Set flags bytes) number fits is =
    record { answered = refl; put = (refl, fits); cleared = refl; flushed = refl }
decided None (Add flags bytes) number fits is =
    record { answered = refl; put = (refl, fits); cleared = refl; flushed = refl }
decided (Some old) (Add flags bytes) number fits is =
    record { answered = refl; put = tt; cleared = refl; flushed = refl }
decided None (Replace flags bytes) number fits is = record { answered = refl; put = tt; cleared = refl; flushed = refl }
decided (Some old) (Replace flags bytes) number fits is =
    record { answered = refl; put = (refl, fits); cleared = refl; flushed = refl }
decided None (Append bytes) number fits is = record { answered = refl; put = tt; cleared = refl; flushed = refl }
decided (Some old) (Append bytes) number fits is = grown_decided old.flags number (old.bytes ++ bytes)
decided None (Prepend bytes) number fits is = record { answered = refl; put = tt; cleared = refl; flushed = refl }
decided (Some old) (Prepend bytes) number fits is = grown_decided old.flags number (bytes ++ old.bytes)
decided None (Cas flags bytes unique) number fits is =
    record { answered = refl; put = tt; cleared = refl; flushed = refl }
decided (Some old) (Cas flags bytes unique) number fits is = cas_step _ flags number bytes fits
decided None (Incr amount) number fits is = record { answered = refl; put = tt; cleared = refl; flushed = refl }
decided (Some old) (Incr amount) number fits is = raised_decided old.flags amount number (counter_of old.bytes)
decided None (Decr amount) number fits is = record { answered = refl; put = tt; cleared = refl; flushed = refl }
decided (Some old) (Decr amount) number fits is =
    lowered_decided old.flags amount number (counter_of old.bytes) (counter_below old.bytes)
decided None Delete number fits is = record { answered = refl; put = tt; cleared = refl; flushed = refl }
decided (Some old) Delete number fits is = record { answered = refl; put = tt; cleared = refl; flushed = refl }
decided None Flush number fits is = record { answered = refl; put = tt; cleared = refl; flushed = refl }
decided (Some old) Flush number fits is = record { answered = refl; put = tt; cleared = refl; flushed = refl }

-- the parts of an update's entry
pub record AreParts (target : Target) (number : ℕ) (reply : Reply) (change : Change) : Type 0 where
  pub answered : is_value reply ≡ false
  pub put : PutsOwn number change
  pub cleared : is_clear change ≡ is_all target
  pub flushed : is_flushed reply ≡ is_all target

-- what is decided on an update that fits may be the reply and the change of an entry
pub entry_parts : (item : Option Item) (made : Call) (number : ℕ) (reply : Reply) (change : Change)
    → ◌≡◌ {A = Decision} (reply, change) (decision item made.op number)
    → IsCall made
    → is_update made.op ≡ true
    → AreParts made.target number reply change
entry_parts item made number reply change is fit update =
    let d = decided item made.op number fit.0 update in
    let r : reply ≡ (decision item made.op number).0 = ap (λ (p : Decision). p.0) is in
    let k : change ≡ (decision item made.op number).1 = ap (λ (p : Decision). p.1) is in
    record {
      answered = ap is_value r ∙ d.answered;
      put = rw k d.put;
      cleared = ap is_clear k ∙ d.cleared ∙ fit.1;
      flushed = ap is_flushed r ∙ d.flushed ∙ fit.1;
    }
