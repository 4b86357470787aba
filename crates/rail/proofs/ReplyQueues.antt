-- Each move keeps the rule of a seat's replies.
use Rattle.std.proofs.Common.{◌≡◌, ◌≢◌, ℕ, zero, suc, true, false, true≢false, List, [], ◌∷◌, ◌++◌, set, sym, refl, ap}
use Rattle.std.proofs.Common.{◌∙◌, ◌⊎◌, inl, inr, subst, ⊎_elim, append_assoc, append-nil}
use mathlib.Core.Option.{some, some-injective, some-ne-none}
use lib.ListN.{get_elem?}
use Rattle.atomic_table.proofs.Lists.{at_set}
use Rattle.crossbeam_channel.specs.Fifo.{Pushes, Pops, Forks}
use Rattle.rail.specs.NotedReplies.{Address, NotedReply, ReplySenderState}
use Rattle.rail.specs.declared.reply_channels.ReplyKnowledge.{ReplyKnowledge}
use Rattle.rail.specs.Turns.{HasPutReplies}
use Rattle.rail.specs.ReplyMessages.{address_of, unknowing, putter, taker, AllAt, DeliversReplies, IsReplyQueue}

-- what each pass knows
abbrev pub Fits : Address → List NotedReply → List NotedReply → ℕ → ℕ → ℕ → ReplyKnowledge → Type 0
Fits a put taken sender receiver pass v =
    ((v ≡ putter a put) × (pass ≡ sender)) ⊎ ((v ≡ taker a taken) × (pass ≡ receiver))

fits_set : (F G : ℕ → ReplyKnowledge → Type 0) (views : List ReplyKnowledge) (pass : ℕ) (w : ReplyKnowledge)
    → G pass w
    → ((j : ℕ) (u : ReplyKnowledge) → j ≢ pass → F j u → G j u)
    → ((j : ℕ) (u : ReplyKnowledge) → get_elem? views j ≡ some u → F j u)
    → (j : ℕ) (u : ReplyKnowledge) → get_elem? (set views pass w) j ≡ some u → G j u
fits_set F G views pass w mine others old j u e =
    ⊎_elim (λ (x : (j ≡ pass) × (w ≡ u)). subst (λ (y : ℕ × ReplyKnowledge). G y.0 y.1) (λ i. (sym x.0 i, x.1 i)) mine)
    (λ (x : (j ≢ pass) × (get_elem? views j ≡ some u)). others j u x.0 (old j u x.1)) (at_set views pass j w u e)

first : (pass : ℕ) (v : ReplyKnowledge) → get_elem? (unknowing ∷ []) pass ≡ some v → unknowing ≡ v
first zero v e = some-injective unknowing v e
first (suc p) v e = absurd (some-ne-none v (sym e))

-- a pass of a new queue is its only one
pub not_new : (items : List NotedReply) (views : List ReplyKnowledge) (pass : ℕ) (v : ReplyKnowledge)
    → v.whole ≡ false
    → get_elem? views pass ≡ some v
    → views ≡ unknowing ∷ []
    → ⊥
not_new items views pass v part at new =
    true≢false (ap (λ (y : ReplyKnowledge). y.whole) (first pass v (sym (ap (λ l. get_elem? l pass) new) ∙ at)) ∙ part)

all_snoc : (a : Address) (xs : List NotedReply) (x : NotedReply) → AllAt a xs → address_of x ≡ a
    → AllAt a (xs ++ x ∷ [])
all_snoc a [] x h e = (e, tt)
all_snoc a (y ∷ ys) x h e = (h.0, all_snoc a ys x h.1 e)

pub address_in : (a b : Address) (put put' : List NotedReply) → putter a put ≡ putter b put' → a ≡ b
address_in a b put put' e = λ i. record { instance = (e i).instance; port = (e i).port }

pub address_out : (a b : Address) (put put' : List NotedReply) → taker a put ≡ taker b put' → a ≡ b
address_out a b put put' e = λ i. record { instance = (e i).instance; port = (e i).port }

pub begins : IsReplyQueue [] (unknowing ∷ [])
begins = inl (refl, refl)

put_on : (pass : ℕ) (a : Address) (put : List NotedReply) (x : NotedReply) (items : List NotedReply)
    (views : List ReplyKnowledge)
    → address_of x ≡ a
    → (p : DeliversReplies items views)
    → putter a put ≡ putter p.address p.put
    → pass ≡ p.sender
    → DeliversReplies (items ++ x ∷ []) (set views pass (putter a (put ++ x ∷ [])))
put_on pass a put x items views is p mine here =
    let same : a ≡ p.address = address_in a p.address put p.put mine in
    let w : ReplyKnowledge = putter a (put ++ x ∷ []) in record {
      address = p.address;
      put = p.put ++ x ∷ [];
      taken = p.taken;
      sender = p.sender;
      receiver = p.receiver;
      order = sym (append_assoc p.taken items (x ∷ [])) ∙ ap (λ l. l ++ x ∷ []) p.order;
      all = all_snoc p.address items x p.all (is ∙ same);
      each = fits_set (Fits p.address p.put p.taken p.sender p.receiver)
          (Fits p.address (p.put ++ x ∷ []) p.taken p.sender p.receiver) views pass w
          (inl ((λ i. putter (same i) ((mine i).list ++ x ∷ [])), here))
          (λ j u apart f. ⊎_elim
          (λ (y : (u ≡ putter p.address p.put) × (j ≡ p.sender)). absurd (apart (y.1 ∙ sym here)))
          (λ (y : (u ≡ taker p.address p.taken) × (j ≡ p.receiver)). inr y) f)
          p.each;
    }

pub puts : (n pass : ℕ) (a : Address) (put : List NotedReply) (x : NotedReply)
    → address_of x ≡ a
    → Pushes IsReplyQueue n pass (putter a put) x (λ w. w ≡ putter a (put ++ x ∷ []))
puts n pass a put x is items views _ h at = (
  putter a (put ++ x ∷ []),
  ⊎_elim (λ (new : (items ≡ []) × (views ≡ unknowing ∷ [])). absurd
      (not_new items views pass (putter a put) refl at new.1))
      (λ (p : DeliversReplies items views).
      inr (⊎_elim (λ (mine : (putter a put ≡ putter p.address p.put) × (pass ≡ p.sender)). put_on pass a put x items
      views is p mine.0 mine.1)
      (λ (other : (putter a put ≡ taker p.address p.taken) × (pass ≡ p.receiver)). absurd
      (true≢false (ap (λ (y : ReplyKnowledge). y.puts) other.0)))
      (p.each pass (putter a put) at)))
      h,
  refl,
)

get_on : (pass : ℕ) (a : Address) (got : List NotedReply) (x : NotedReply) (items : List NotedReply)
    (views : List ReplyKnowledge)
    → (p : DeliversReplies (x ∷ items) views)
    → taker a got ≡ taker p.address p.taken
    → pass ≡ p.receiver
    → DeliversReplies items (set views pass (taker a (got ++ x ∷ [])))
get_on pass a got x items views p mine here =
    let same : a ≡ p.address = address_out a p.address got p.taken mine in
    let w : ReplyKnowledge = taker a (got ++ x ∷ []) in record {
      address = p.address;
      put = p.put;
      taken = p.taken ++ x ∷ [];
      sender = p.sender;
      receiver = p.receiver;
      order = append_assoc p.taken (x ∷ []) items ∙ p.order;
      all = p.all.1;
      each = fits_set (Fits p.address p.put p.taken p.sender p.receiver)
          (Fits p.address p.put (p.taken ++ x ∷ []) p.sender p.receiver) views pass w
          (inr ((λ i. taker (same i) ((mine i).list ++ x ∷ [])), here))
          (λ j u apart f. ⊎_elim (λ (y : (u ≡ putter p.address p.put) × (j ≡ p.sender)). inl y)
          (λ (y : (u ≡ taker p.address p.taken) × (j ≡ p.receiver)). absurd (apart (y.1 ∙ sym here))) f)
          p.each;
    }

got_at : (pass : ℕ) (a : Address) (got : List NotedReply) (x : NotedReply) (items : List NotedReply)
    (views : List ReplyKnowledge)
    → get_elem? views pass ≡ some (taker a got)
    → (p : DeliversReplies (x ∷ items) views)
    → (taker a got ≡ taker p.address p.taken) × (pass ≡ p.receiver)
got_at pass a got x items views at p =
    ⊎_elim (λ (other : (taker a got ≡ putter p.address p.put) × (pass ≡ p.sender)). absurd
    (true≢false (sym (ap (λ (y : ReplyKnowledge). y.puts) other.0))))
    (λ (mine : (taker a got ≡ taker p.address p.taken) × (pass ≡ p.receiver)). mine)
    (p.each pass (taker a got) at)

in_use : (x : NotedReply) (items : List NotedReply) (views : List ReplyKnowledge) (pass : ℕ) (v : ReplyKnowledge)
    → v.whole ≡ false
    → get_elem? views pass ≡ some v
    → IsReplyQueue (x ∷ items) views
    → DeliversReplies (x ∷ items) views
in_use x items views pass v part at h =
    ⊎_elim (λ (new : (x ∷ items ≡ []) × (views ≡ unknowing ∷ [])). absurd
    (not_new (x ∷ items) views pass v part at new.1)) (λ (p : DeliversReplies (x ∷ items) views). p) h

pub gets : (pass : ℕ) (a : Address) (got : List NotedReply)
    → Pops IsReplyQueue pass (taker a got)
    (λ x w. (w ≡ taker a (got ++ x ∷ [])) × (x.told.instance ≡ a.instance) × (x.port ≡ a.port))
gets pass a got x items views h at =
    let p = in_use x items views pass (taker a got) refl at h in
    let mine = got_at pass a got x items views at p in
    let same : a ≡ p.address = address_out a p.address got p.taken mine.0 in (
      taker a (got ++ x ∷ []),
      inr (get_on pass a got x items views p mine.0 mine.1),
      (refl, ap (λ (b : Address). b.instance) (p.all.0 ∙ sym same), ap (λ (b : Address). b.port) (p.all.0 ∙ sym same)),
    )

both : (a : Address) (pass : ℕ) (v : ReplyKnowledge)
    → get_elem? (putter a [] ∷ (taker a [] ∷ [])) pass ≡ some v
    → Fits a [] [] 0 1 pass v
both a zero v e = inl (sym (some-injective (putter a []) v e), refl)
both a (suc zero) v e = inr (sym (some-injective (taker a []) v e), refl)
both a (suc (suc pass)) v e = absurd (some-ne-none v (sym e))

opened : (a : Address) (pass : ℕ)
    → get_elem? (unknowing ∷ []) pass ≡ some unknowing
    → DeliversReplies [] (set (unknowing ∷ []) pass (putter a []) ++ taker a [] ∷ [])
opened a zero at = record {
  address = a;
  put = [];
  taken = [];
  sender = 0;
  receiver = 1;
  order = refl;
  all = tt;
  each = both a;
}
opened a (suc pass) at = absurd (some-ne-none unknowing (sym at))

pub opens : (pass : ℕ) (a : Address) → Forks IsReplyQueue pass unknowing (putter a []) (taker a [])
opens pass a items views h at =
    ⊎_elim (λ (new : (items ≡ []) × (views ≡ unknowing ∷ [])).
    inr (subst (λ (y : List NotedReply × List ReplyKnowledge). DeliversReplies y.0
    (set y.1 pass (putter a []) ++ taker a [] ∷ []))
    (λ i. (sym new.0 i, sym new.1 i)) (opened a pass (sym (ap (λ l. get_elem? l pass) new.1) ∙ at))))
    (λ (p : DeliversReplies items views).
    absurd (⊎_elim (λ (y : (unknowing ≡ putter p.address p.put) × (pass ≡ p.sender)). true≢false
    (ap (λ (s : ReplyKnowledge). s.whole) y.0))
    (λ (y : (unknowing ≡ taker p.address p.taken) × (pass ≡ p.receiver)). true≢false
    (ap (λ (s : ReplyKnowledge). s.whole) y.0))
    (p.each pass unknowing at)))
    h

-- a reply was put
pub replies_put : (before after : ReplySenderState) (noted_reply : NotedReply)
    → after.address ≡ before.address
    → after.put ≡ before.put ++ noted_reply ∷ []
    → after.gone ≡ before.gone
    → HasPutReplies before after (noted_reply ∷ [])
replies_put before after noted_reply same put gone =
    record { address = same; more = noted_reply ∷ []; put = put; left = inr ([], refl, refl); gone = λ g. gone ∙ g }

-- or it was handed back
pub handed_back : (before after : ReplySenderState) (noted_reply : NotedReply)
    → after.address ≡ before.address
    → after.put ≡ before.put
    → after.gone ≡ true
    → HasPutReplies before after (noted_reply ∷ [])
handed_back before after noted_reply same put gone =
    record {
      address = same;
      more = [];
      put = put ∙ sym (append-nil before.put);
      left = inl (gone, refl);
      gone = λ g. gone;
    }
