-- Sessions at which no bytes wait: one gives the call of the one request that comes, and none wait there afterwards.
use Rattle.std.proofs.Common.{◌≡◌, ℕ, false, List, [], ◌∷◌, ◌++◌, length, drop, cond, Option, None, Some, refl, arith}
use Rattle.std.proofs.Common.{ap, sym, ◌∙◌, subst, append-nil}
use Rattle.std.proofs.lemmas.List.{drop_all}
use Rattle.table.specs.declared.operations.Call.{Call}
use Rattle.table.specs.declared.operations.Reply.{Reply}
use Rattle.proto.specs.declared.requests.Request.{Request}
use Rattle.proto.specs.declared.requests.Request.TheVariants.{Store, Get, Arith, Delete, Flush, Quit, Bad}
use Rattle.proto.specs.declared.texts.Form.{Form}
use Rattle.proto.specs.declared.front.Found.TheVariants.{Request as Requested}
use Rattle.proto.specs.Fronts.{front, found_at, refused_at, found_of}
use Rattle.proto.specs.Grammar.{Spells}
use Rattle.proto.specs.Turns.{Turn, Calls, Faulty, turns_of}
use Rattle.proto.specs.Sessions.{Held, Given, answered_by, fed, kept, passed, next_of, by_request, by_found}
use Rattle.proto.specs.Sessions.{by_skipped_block}
use Rattle.proto.specs.Sessions.{by_later, refused_by}
use Rattle.proto.proofs.GrammarLaws.{spelled_is_found}

-- a session that no bytes wait at
pub record IsRested (h : Held) : Type 0 where
  pub unread : h.unread ≡ []
  pub skipped_block : h.skipped_block ≡ None
  pub later : h.later ≡ []
  pub closed : h.closed ≡ false

-- one that is handed a reply stays so
pub rested_answered : (asked : Option Form) (s : Held) (reply : Reply)
    → IsRested s
    → IsRested (answered_by asked s reply)
rested_answered None s reply r = r
rested_answered (Some form) s reply r =
    record { unread = r.unread; skipped_block = r.skipped_block; later = r.later; closed = r.closed }

-- and so does one whose call is refused
pub rested_refused : (asked : Option Form) (s : Held) → IsRested s → IsRested (refused_by asked s)
rested_refused None s r = r
rested_refused (Some form) s r =
    record { unread = r.unread; skipped_block = r.skipped_block; later = r.later; closed = r.closed }

-- a turn that a session gave, which left it with no bytes waiting
pub record GivesRested (given : Given) (call : Call) (form : Form) : Type 0 where
  pub turn : given.0 ≡ Some (Calls call form)
  pub rested : IsRested given.1

one_turn : (t u : Turn) → ◌≡◌ {A = List Turn} (t ∷ []) (u ∷ []) → t ≡ u
one_turn t u e = cc

by_one : (request : Request) (call : Call) (form : Form) (h : Held)
    → IsRested h
    → turns_of request ≡ Calls call form ∷ []
    → GivesRested (by_request request h) call form
by_one (Store key op silent) call form h r e =
    record {
      turn = ap Some (one_turn _ _ e);
      rested = record { unread = r.unread; skipped_block = r.skipped_block; later = r.later; closed = r.closed };
    }
by_one (Get [] unique) call form h r e = absurd cc
by_one (Get (key ∷ []) unique) call form h r e =
    record {
      turn = ap Some (one_turn _ _ e);
      rested = record { unread = r.unread; skipped_block = r.skipped_block; later = refl; closed = r.closed };
    }
by_one (Get (key ∷ (other ∷ keys)) unique) call form h r e = absurd cc
by_one (Arith key op silent) call form h r e =
    record {
      turn = ap Some (one_turn _ _ e);
      rested = record { unread = r.unread; skipped_block = r.skipped_block; later = r.later; closed = r.closed };
    }
by_one (Delete key silent) call form h r e =
    record {
      turn = ap Some (one_turn _ _ e);
      rested = record { unread = r.unread; skipped_block = r.skipped_block; later = r.later; closed = r.closed };
    }
by_one (Flush silent) call form h r e =
    record {
      turn = ap Some (one_turn _ _ e);
      rested = record { unread = r.unread; skipped_block = r.skipped_block; later = r.later; closed = r.closed };
    }
by_one Quit call form h r e = absurd cc
by_one (Bad fault) call form h r e = absurd (let no : Faulty fault ≡ Calls call form = one_turn _ _ e in cc)

module _ (h : Held) (call : Call) (request : Request) (bytes : List ℕ) (form : Form)
    (spelled : Spells request bytes) (alone : turns_of request ≡ Calls call form ∷ [])
    (unread : h.unread ≡ bytes) (skipped_block : h.skipped_block ≡ None) (later : h.later ≡ [])
    (closed : h.closed ≡ false) where
  found : found_at h.unread ≡ Requested request (length bytes)
  found =
      let at : front bytes ≡ Some (request, length bytes) =
      subst (λ bs. front bs ≡ Some (request, length bytes)) (append-nil bytes)
      (spelled_is_found request bytes [] spelled) in
      ap (λ f. found_of f (refused_at h.unread)) (ap front unread ∙ at)

  by_front : GivesRested (by_found (Requested request (length bytes)) h) call form
  by_front =
      by_one request call form (record h { unread = drop (length bytes) h.unread })
      (record {
        unread = drop_all (length bytes) h.unread (omega (arith, ap length unread));
        skipped_block = skipped_block;
        later = later;
        closed = closed;
      })
      alone

  -- it gives that request's call
  pub next_gives : GivesRested (next_of h) call form
  next_gives =
      subst (λ b. GivesRested (cond b (None, h) (by_later h.later h)) call form) (sym closed)
      (subst (λ ls. GivesRested (by_later ls h) call form) (sym later)
      (subst (λ p. GivesRested (by_skipped_block p h) call form) (sym skipped_block)
      (subst (λ f. GivesRested (by_found f h) call form) (sym found) by_front)))

-- what a rested session holds once it was fed
pub fed_rested : (h : Held) (bytes : List ℕ)
    → IsRested h
    → ((fed h bytes).unread ≡ bytes) × ((fed h bytes).skipped_block ≡ None) × ((fed h bytes).later ≡ [])
    × ((fed h bytes).closed ≡ false)
fed_rested h bytes r =
    let e : fed h bytes ≡ record h {
      unread = h.unread
          ++ kept h.skipped_block bytes;
      skipped_block = passed h.skipped_block bytes;
    } =
    ap (λ b. cond b h (record h {
      unread = h.unread
          ++ kept h.skipped_block bytes;
      skipped_block = passed h.skipped_block bytes;
    }))
    r.closed in (
      ap (λ (x : Held). x.unread) e ∙ ap (λ u. u ++ kept h.skipped_block bytes) r.unread
          ∙ ap (λ p. kept p bytes) r.skipped_block,
      ap (λ (x : Held). x.skipped_block) e ∙ ap (λ p. passed p bytes) r.skipped_block,
      ap (λ (x : Held). x.later) e ∙ r.later,
      ap (λ (x : Held). x.closed) e ∙ r.closed,
    )
