-- Own calls that are answered, an entry at a time.
use Rattle.std.proofs.Common.{◌≡◌, ℕ, zero, suc, ◌+◌, ◌-◌, ◌<◌, ◌≤◌, List, [], ◌∷◌, ◌++◌, length, take, refl, sym, ap}
use Rattle.std.proofs.Common.{◌∙◌, arith, append_assoc, append-nil, ◌==◌, Option, Some, None}
use Rattle.std.proofs.lemmas.Bool.{cond_both}
use Rattle.versions.specs.Entries.{LogEntry}
use Rattle.node.specs.declared.servers.OpenUpdate.{OpenUpdate}
use Rattle.node.specs.declared.messages.Output.{Output}
use Rattle.node.specs.Servers.{reply_at}
use Rattle.node.specs.Numbering.{open_update, left_open, left_open_by, replied, replies, reply_to}

-- an entry puts out a reply, or nothing
pub reply_all : (P : List Output → Type 0) (id : ℕ) (pend : List OpenUpdate) (e : LogEntry)
    → P []
    → ((port : ℕ) → P (reply_at port e.reply))
    → P (reply_to id pend e)
reply_all P id pend e none one =
    cond_both (e.origin == id) _ _ (λ (os : List Output). P os) (λ t. replied_all (open_update pend e.id)) (λ f. none)
  where
    replied_all : (u : Option OpenUpdate) → P (replied e.reply u)
    replied_all None = none
    replied_all (Some u) = one u.port

left_more : (id : ℕ) (pend : List OpenUpdate) (e : LogEntry) (es : List LogEntry)
    → left_open id pend (e ∷ es) ≡ left_open id (left_open_by id pend e) es
unfolding left_open
left_more id pend e es = refl

replies_more : (id : ℕ) (pend : List OpenUpdate) (e : LogEntry) (es : List LogEntry)
    → replies id pend (e ∷ es) ≡ reply_to id pend e ++ replies id (left_open_by id pend e) es
unfolding replies
replies_more id pend e es = refl

left_none : (id : ℕ) (pend : List OpenUpdate) → left_open id pend [] ≡ pend
unfolding left_open
left_none id pend = refl

replies_none : (id : ℕ) (pend : List OpenUpdate) → replies id pend [] ≡ []
unfolding replies
replies_none id pend = refl

taken_more : (n k : ℕ) (e : LogEntry) (es : List LogEntry) → k < n → take (n - k) (e ∷ es) ≡ e ∷ take (n - (k + 1)) es
taken_more n k e es low = let next : n - k ≡ suc (n - (k + 1)) = omega arith in rw next refl

taken_none : (m : ℕ) (es : List LogEntry) → length es ≡ 0 → take m es ≡ []
taken_none zero [] h = refl
taken_none (suc m) [] h = refl
taken_none m (e ∷ es) h = absurd (omega arith)

taken_all : (n k : ℕ) (es : List LogEntry) → n ≤ k → take (n - k) es ≡ []
taken_all n k es low = let zero_left : n - k ≡ 0 = omega arith in rw zero_left refl

-- the loop over the entries: what the calls come to does not change, nor what is put out in all
module _ (id n k : ℕ) (pend : List OpenUpdate) (rest : List LogEntry) where
  -- one entry more has closed its call
  pub left_step : (whole next : List OpenUpdate) (e : LogEntry) (es : List LogEntry)
      → k < n
      → rest ≡ e ∷ es
      → next ≡ left_open_by id pend e
      → whole ≡ left_open id pend (take (n - k) rest)
      → whole ≡ left_open id next (take (n - (k + 1)) es)
  left_step whole next e es low is same h = h ∙ ap (left_open id pend) (ap (take (n - k)) is ∙ taken_more n k e es low)
      ∙ left_more id pend e _ ∙ ap (λ p. left_open id p (take (n - (k + 1)) es)) (sym same)

  -- one entry more has put out its reply
  pub replies_step : (whole done after : List Output) (next : List OpenUpdate) (e : LogEntry) (es : List LogEntry)
      → k < n
      → rest ≡ e ∷ es
      → next ≡ left_open_by id pend e
      → after ≡ done ++ reply_to id pend e
      → whole ≡ done ++ replies id pend (take (n - k) rest)
      → whole ≡ after ++ replies id next (take (n - (k + 1)) es)
  replies_step whole done after next e es low is same put h =
      h ∙ ap (λ r. done ++ r)
      (ap (replies id pend) (ap (take (n - k)) is ∙ taken_more n k e es low) ∙ replies_more id pend e _)
      ∙ sym (append_assoc done (reply_to id pend e) _)
      ∙ ap (λ d. d ++ replies id (left_open_by id pend e) (take (n - (k + 1)) es)) (sym put)
      ∙ ap (λ p. after ++ replies id p (take (n - (k + 1)) es)) (sym same)

  -- with no entry left, the calls that are open are those that all leave
  pub left_end : (whole : List OpenUpdate)
      → length rest ≡ 0
      → whole ≡ left_open id pend (take (n - k) rest)
      → pend ≡ whole
  left_end whole none h = sym (h ∙ ap (left_open id pend) (taken_none (n - k) rest none) ∙ left_none id pend)

  -- with no entry left, all replies are put out
  pub replies_end : (whole done : List Output)
      → length rest ≡ 0
      → whole ≡ done ++ replies id pend (take (n - k) rest)
      → done ≡ whole
  replies_end whole done none h =
      sym (h ∙ ap (λ es. done ++ replies id pend es) (taken_none (n - k) rest none)
      ∙ ap (λ r. done ++ r) (replies_none id pend) ∙ append-nil done)

  -- with the count reached, the calls that are open are those that its entries leave
  pub left_done : (whole : List OpenUpdate) → n ≤ k → whole ≡ left_open id pend (take (n - k) rest) → pend ≡ whole
  left_done whole over h = sym (h ∙ ap (left_open id pend) (taken_all n k rest over) ∙ left_none id pend)

  -- with the count reached, the replies of its entries are put out
  pub replies_done : (whole done : List Output)
      → n ≤ k
      → whole ≡ done ++ replies id pend (take (n - k) rest)
      → done ≡ whole
  replies_done whole done over h =
      sym (h ∙ ap (λ es. done ++ replies id pend es) (taken_all n k rest over)
      ∙ ap (λ r. done ++ r) (replies_none id pend) ∙ append-nil done)
