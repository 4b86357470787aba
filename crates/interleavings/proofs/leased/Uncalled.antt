-- What servers put out that are never called gone is made up in time.
use Rattle.std.proofs.Common.{◌≡◌, ℕ, ◌≤◌, false, List, length, take, refl, arith, ap, ◌∙◌, subst, sym}
use Rattle.std.proofs.lemmas.List.{take_all}
use Rattle.interleavings.specs.LeasedMoves.{LeasedChain, LeasedMove, opening_leased, leased, home_of, put_for}
use Rattle.interleavings.specs.LeasedOrders.{AreRepliesLeased, AreMessagesLeased}
use Rattle.interleavings.proofs.leased.StoppedRuns.{written_along}

module _ (count : ℕ) (homes : List ℕ) (moves : List LeasedMove) where
  whole : leased count homes (take (length moves) moves) ≡ leased count homes moves
  whole = ap (leased count homes) (take_all (length moves) moves (omega arith))

  -- messages,
  pub uncalled_messages : (i j : ℕ)
      → (leased count homes moves).called i ≡ false
      → AreMessagesLeased count homes moves i j
  uncalled_messages i j going = (
    length moves,
    ap (λ (s : LeasedChain). s.called i) whole ∙ going,
    subst (λ (s : LeasedChain). (leased count homes moves).arrived i j ≤ put_for s i j) (sym whole) (omega arith),
  )

  -- and replies
  pub uncalled_replies : (c : ℕ)
      → (leased count homes moves).called (home_of count homes c) ≡ false
      → AreRepliesLeased count homes moves c
  uncalled_replies c going = (
    length moves,
    ap (λ (s : LeasedChain). s.called (home_of count homes c)) whole ∙ going,
    subst (λ (s : LeasedChain). (leased count homes moves).written c ≤ length (s.chain.seats c).got) (sym whole)
        (written_along moves (opening_leased count homes) (λ x. omega arith) c),
  )

  -- where nothing was put out nothing was late
  pub none_arrived : (i j : ℕ) → (leased count homes moves).arrived i j ≡ 0 → AreMessagesLeased count homes moves i j
  none_arrived i j none = (0, refl, omega (arith, none))

  pub none_written : (c : ℕ) → (leased count homes moves).written c ≡ 0 → AreRepliesLeased count homes moves c
  none_written c none = (0, refl, omega (arith, none))
