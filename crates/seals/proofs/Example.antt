-- A run: one of two members begins an update, both are sealed, the update is passed on, and both become idle.
use Rattle.std.proofs.Common.{◌≡◌, ℕ, zero, suc, inl, inr, true, false, nat_lt, [], ◌∷◌, ◌++◌}
use Rattle.std.proofs.Common.{refl, ◌∙◌, arith, replicate}
use Rattle.std.specs.Int.{bit_at}
use Rattle.std.proofs.lemmas.Bool.{and_parts, eqb-true, false≢true, true≢false}
use Rattle.std.proofs.lemmas.Nat.Bits.{bit_at-suc, bit_at-zero}
use Rattle.leases.specs.Sets.{has}
use Rattle.successions.specs.declared.orders.Phase.{Phase}
use Rattle.successions.specs.declared.orders.Phase.TheVariants.{Sealed}
use Rattle.successions.specs.Decisions.{is_member}
use Rattle.successions.specs.Lists.{with_at}
use Rattle.seals.specs.declared.markers.Numbers.{Numbers}
use Rattle.seals.specs.declared.markers.Marker.{Marker}
use Rattle.seals.specs.Seals.{begins, is_in, followed, passed_by, marked_by, standing_of, all_below}
use Rattle.seals.specs.Runs.{Begun, Passed, Update, Mark, Work, Run, begun, with_both, IsMoved, Follows, Sees}
use Rattle.seals.specs.Runs.{Begins}
use Rattle.seals.specs.Runs.{Holds, Takes, Passes, Works, Sends, Hears, Marks, Reaches, Reports, IsReached, At_first}
use Rattle.seals.specs.Runs.{Goes_on, counts, HasReported, AreIdle}

abbrev numbers : Numbers
numbers = record { view = 0; last = 1; committed = 1 }

abbrev marker : Marker
marker = record { generation = 4; epoch = 7; numbers = numbers }

abbrev sealing : Phase
sealing = Sealed (record { epoch = 7; next = record { processes = replicate 16 0 } })

-- the update is numbered, and not acknowledged
abbrev taken : Work
taken = record {
  table = record { numbers = record { view = 0; last = 1; committed = 0 }; busy = true };
  active = true;
  rested = 0;
}

-- it is acknowledged
abbrev done : Work
done = record { table = record { numbers = numbers; busy = false }; active = false; rested = 2 }

abbrev fresh : Work
fresh = record {
  table = record { numbers = record { view = 0; last = 0; committed = 0 }; busy = false };
  active = false;
  rested = 0;
}

first_taken : IsMoved fresh taken
first_taken = record {
  view = omega arith;
  last = omega arith;
  committed = omega arith;
  busy = λ e. absurd (true≢false e);
  goes_on = λ e. refl;
  rests = λ e. absurd (true≢false e);
}

then_done : IsMoved fresh done
then_done = record {
  view = omega arith;
  last = omega arith;
  committed = omega arith;
  busy = λ e. refl;
  goes_on = λ e. absurd (false≢true e);
  rests = λ e. inr (record { further = omega arith; rested = refl });
}

first_done : IsMoved taken done
first_done = record {
  view = omega arith;
  last = omega arith;
  committed = omega arith;
  busy = λ e. refl;
  goes_on = λ e. absurd (false≢true e);
  rests = λ e. inr (record { further = omega arith; rested = refl });
}

abbrev w0 : Run
w0 = begun 3 4 1

abbrev w1 : Run
w1 = record w0 { inlets = with_both w0.inlets 0 0 (w0.inlets 0 0 ++ Begun ∷ []) }

abbrev w2 : Run
w2 = record w1 { works = with_at w1.works 0 taken; inlets = with_both w1.inlets 0 0 [] }

abbrev w3 : Run
w3 = record w2 { links = with_both w2.links 0 1 (w2.links 0 1 ++ Update (w2.works 0).rested ∷ []) }

abbrev w4 : Run
w4 = record w3 { seals = with_at w3.seals 0 (followed (w3.seals 0) sealing) }

abbrev w5 : Run
w5 = record w4 { seals = with_at w4.seals 1 (followed (w4.seals 1) sealing) }

abbrev w6 : Run
w6 = record w5 {
  flags = with_both w5.flags 0 0 (record { begins = begins (w5.seals 0).hold; epoch = (w5.seals 0).epoch });
}

abbrev w7 : Run
w7 = record w6 {
  flags = with_both w6.flags 1 0 (record { begins = begins (w6.seals 1).hold; epoch = (w6.seals 1).epoch });
}

abbrev w8 : Run
w8 = record w7 { inlets = with_both w7.inlets 0 0 (w7.inlets 0 0 ++ Passed (w7.flags 0 0).epoch ∷ []) }

abbrev w9 : Run
w9 = record w8 { inlets = with_both w8.inlets 1 0 (w8.inlets 1 0 ++ Passed (w8.flags 1 0).epoch ∷ []) }

abbrev w10 : Run
w10 = record w9 { seals = with_at w9.seals 0 (passed_by (w9.seals 0) 0 7); inlets = with_both w9.inlets 0 0 [] }

abbrev w11 : Run
w11 = record w10 { seals = with_at w10.seals 1 (passed_by (w10.seals 1) 0 7); inlets = with_both w10.inlets 1 0 [] }

abbrev w12 : Run
w12 = record w11 { works = with_at w11.works 1 done; links = with_both w11.links 0 1 [] }

abbrev w13 : Run
w13 = record w12 { works = with_at w12.works 0 done }

abbrev w14 : Run
w14 = record w13 { links = with_both w13.links 0 1 (w13.links 0 1 ++ Mark marker ∷ []) }

abbrev w15 : Run
w15 = record w14 { links = with_both w14.links 1 0 (w14.links 1 0 ++ Mark marker ∷ []) }

abbrev w16 : Run
w16 = record w15 { seals = with_at w15.seals 1 (marked_by (w15.seals 1) 0 marker); links = with_both w15.links 0 1 [] }

abbrev w17 : Run
w17 = record w16 { seals = with_at w16.seals 0 (marked_by (w16.seals 0) 1 marker); links = with_both w16.links 1 0 [] }

abbrev w18 : Run
w18 = record w17 {
  reports = record {
    from = 0;
    epoch = (w17.seals 0).epoch;
    standing = standing_of (w17.seals 0) (w17.works 0).table;
  } ∷ w17.reports;
}

abbrev w19 : Run
w19 = record w18 {
  reports = record {
    from = 1;
    epoch = (w18.seals 1).epoch;
    standing = standing_of (w18.seals 1) (w18.works 1).table;
  } ∷ w18.reports;
}

is_reached_0 : IsReached 3 4 1 w0
is_reached_0 = At_first

is_reached_1 : IsReached 3 4 1 w1
unfolding with_at all_below
is_reached_1 = Goes_on w0 w1 is_reached_0 (Begins 0 0 (omega arith) refl)

is_reached_2 : IsReached 3 4 1 w2
unfolding with_at all_below
is_reached_2 = Goes_on w1 w2 is_reached_1 (Takes 0 0 [] taken refl first_taken)

is_reached_3 : IsReached 3 4 1 w3
unfolding with_at all_below
is_reached_3 = Goes_on w2 w3 is_reached_2 (Sends 0 1 refl refl refl)

is_reached_4 : IsReached 3 4 1 w4
unfolding with_at all_below
is_reached_4 = Goes_on w3 w4 is_reached_3 (Follows 0 sealing)

is_reached_5 : IsReached 3 4 1 w5
unfolding with_at all_below
is_reached_5 = Goes_on w4 w5 is_reached_4 (Follows 1 sealing)

is_reached_6 : IsReached 3 4 1 w6
unfolding with_at all_below
is_reached_6 = Goes_on w5 w6 is_reached_5 (Sees 0 0)

is_reached_7 : IsReached 3 4 1 w7
unfolding with_at all_below
is_reached_7 = Goes_on w6 w7 is_reached_6 (Sees 1 0)

is_reached_8 : IsReached 3 4 1 w8
unfolding with_at all_below
is_reached_8 = Goes_on w7 w8 is_reached_7 (Holds 0 0 refl)

is_reached_9 : IsReached 3 4 1 w9
unfolding with_at all_below
is_reached_9 = Goes_on w8 w9 is_reached_8 (Holds 1 0 refl)

is_reached_10 : IsReached 3 4 1 w10
unfolding with_at all_below
is_reached_10 = Goes_on w9 w10 is_reached_9 (Passes 0 0 7 [] refl)

is_reached_11 : IsReached 3 4 1 w11
unfolding with_at all_below
is_reached_11 = Goes_on w10 w11 is_reached_10 (Passes 1 0 7 [] refl)

is_reached_12 : IsReached 3 4 1 w12
unfolding with_at all_below
is_reached_12 = Goes_on w11 w12 is_reached_11 (Hears 0 1 0 [] done refl refl then_done)

is_reached_13 : IsReached 3 4 1 w13
unfolding with_at all_below
is_reached_13 = Goes_on w12 w13 is_reached_12 (Works 0 done refl first_done)

is_reached_14 : IsReached 3 4 1 w14
unfolding with_at all_below
is_reached_14 = Goes_on w13 w14 is_reached_13 (Marks 0 1 marker refl)

is_reached_15 : IsReached 3 4 1 w15
unfolding with_at all_below
is_reached_15 = Goes_on w14 w15 is_reached_14 (Marks 1 0 marker refl)

is_reached_16 : IsReached 3 4 1 w16
unfolding with_at all_below
is_reached_16 = Goes_on w15 w16 is_reached_15 (Reaches 0 1 marker [] refl refl)

is_reached_17 : IsReached 3 4 1 w17
unfolding with_at all_below
is_reached_17 = Goes_on w16 w17 is_reached_16 (Reaches 1 0 marker [] refl refl)

is_reached_18 : IsReached 3 4 1 w18
unfolding with_at all_below
is_reached_18 = Goes_on w17 w18 is_reached_17 (Reports 0)

is_reached_19 : IsReached 3 4 1 w19
unfolding with_at all_below
is_reached_19 = Goes_on w18 w19 is_reached_18 (Reports 1)

no_third : (i : ℕ) → is_member 3 (suc (suc i)) ≡ true → ⊥
no_third i member =
    let one : bit_at 3 (suc (suc i)) ≡ 1 =
    eqb-true (bit_at 3 (suc (suc i))) 1 (and_parts (nat_lt (suc (suc i)) 16) (has 3 (suc (suc i))) member).1 in
    let none : bit_at 3 (suc (suc i)) ≡ 0 = bit_at-suc 3 (suc i) ∙ (bit_at-suc 1 i ∙ bit_at-zero i) in
    omega (arith, one, none)

reported : (i : ℕ) → counts 3 0 i → HasReported w19 7 numbers i
unfolding with_at all_below
reported zero counting = record {
  sent = record { from = 0; epoch = 7; standing = record { view = 0; last = 1; committed = 1; idle = true } };
  among = inr (inl refl);
  from = refl;
  epoch_is = refl;
  standing = refl;
}
reported (suc zero) counting = record {
  sent = record { from = 1; epoch = 7; standing = record { view = 0; last = 1; committed = 1; idle = true } };
  among = inl refl;
  from = refl;
  epoch_is = refl;
  standing = refl;
}
reported (suc (suc i)) counting = absurd (no_third i counting.0)

pub are_idle : (w : Run) × IsReached 3 4 1 w × AreIdle 3 w 7 (record { view = 0; last = 1; committed = 1 })
unfolding with_at all_below
are_idle = (w19, is_reached_19, record { reported = reported; sealed = sealed; view = view })
  where
    sealed : (i : ℕ) → counts 3 0 i → is_in (w19.seals i) 7 ≡ true
    sealed zero counting = refl
    sealed (suc zero) counting = refl
    sealed (suc (suc i)) counting = absurd (no_third i counting.0)

    view : (i : ℕ) → counts 3 0 i → (w19.works i).table.numbers.view ≡ 0
    view zero counting = refl
    view (suc zero) counting = refl
    view (suc (suc i)) counting = absurd (no_third i counting.0)
