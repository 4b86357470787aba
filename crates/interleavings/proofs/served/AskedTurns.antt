-- Each call that the bytes of a stream spell is one that clients can ask.
use Rattle.std.proofs.Common.{◌≡◌, ℕ, zero, suc, ◌^◌, ◌<◌, ◌≤◌, Bool, true, false, cond, List, [], ◌∷◌, ◌++◌, length}
use Rattle.std.proofs.Common.{take, drop, None, Some, refl, ap, sym, subst, ◌∙◌}
use Rattle.std.specs.Prelude.{◌&&◌, nat_lt, IsTrue, slice_get}
use Rattle.std.specs.List.{list_all, flat_map}
use Rattle.std.specs.Char.{is_ascii_digit}
use Rattle.std.specs.Str.Parse.{digits_value}
use Rattle.std.proofs.lemmas.Bool.{and_parts, ltb-true}
use Rattle.std.proofs.lemmas.Option.{same_Some}
use Rattle.table.specs.Items.{limit}
use Rattle.table.specs.Keys.{IsKey, is_key}
use Rattle.table.specs.Numbers.{number_of}
use Rattle.table.specs.declared.operations.Call.{Call}
use Rattle.table.specs.declared.operations.Op.{Op}
use Rattle.table.specs.declared.operations.Op.TheVariants.{Read, Set, Add, Replace, Append, Prepend, Cas, Incr, Decr}
use Rattle.table.specs.declared.operations.Op.TheVariants.{Delete, Flush}
use Rattle.table.specs.declared.operations.Target.TheVariants.{One}
use Rattle.proto.specs.declared.requests.Request.{Request}
use Rattle.proto.specs.declared.requests.Request.TheVariants as requests
use Rattle.proto.specs.declared.storage.StorageLine.{StorageLine}
use Rattle.proto.specs.declared.storage.Verb.{Verb}
use Rattle.proto.specs.declared.words.Storing.{Storing}
use Rattle.proto.specs.declared.words.Storing.TheVariants as storing
use Rattle.proto.specs.Verbs.{op_of}
use Rattle.proto.specs.Grammar.{IsVerb, AreStorage, Spells}
use Rattle.proto.specs.Fronts.{Front, front, is_last}
use Rattle.proto.specs.Turns.{Outcome, Replied, Refused, calls_of, looks, turns_of}
use Rattle.proto.specs.Streams.{and_later, requests_upto, turns, to_come}
use Rattle.proto.proofs.GrammarLaws.{found_is_spelled}
use Rattle.proto.proofs.WriteLaws.{calls_of_more}
use Rattle.interleavings.specs.Asked.{IsAsked}
use Rattle.interleavings.specs.Connections.{Connection}
use Rattle.interleavings.specs.Served.{unrefused}
use Rattle.interleavings.proofs.served.Connected.{as_list, IsConnected, calls_spelled}

-- clients can ask each of these
abbrev AllAsked : List Call → Type 0
AllAsked [] = Unit {0}
AllAsked (call ∷ cs) = IsAsked call × AllAsked cs

both_asked : (cs ds : List Call) → AllAsked cs → AllAsked ds → AllAsked (cs ++ ds)
both_asked [] ds a b = b
both_asked (call ∷ cs) ds a b = (a.0, both_asked cs ds a.1 b)

one_asked : (cs ds : List Call) (call : Call) → AllAsked (cs ++ call ∷ ds) → IsAsked call
one_asked [] ds call a = a.0
one_asked (c ∷ cs) ds call a = one_asked cs ds call a.1

-- also of those that weren't refused
unrefused_asked : (cs : List Call) (os : List Outcome) → AllAsked cs → AllAsked (unrefused cs os)
unrefused_asked [] os a = tt
unrefused_asked (c ∷ cs) [] a = a
unrefused_asked (c ∷ cs) (Replied reply ∷ os) a = (a.0, unrefused_asked cs os a.1)
unrefused_asked (c ∷ cs) (Refused ∷ os) a = unrefused_asked cs os a.1

id_at : (cs ds : List Call) (q : ℕ) (call : Call)
    → AllAsked (cs ++ ds)
    → slice_get cs q ≡ Some call
    → IsAsked call
id_at [] ds q call a e = absurd (let no : None ≡ Some call = e in cc)
id_at (c ∷ cs) ds zero call a e = subst IsAsked (same_Some c call e) a.0
id_at (c ∷ cs) ds (suc q) call a e = id_at cs ds q call a.1 e

-- a number that was read is below its bound
number_below : (bound : ℕ) (field : List ℕ) (n : ℕ) → number_of bound field ≡ Some n → n < bound
number_below bound [] n h = absurd (let no : None ≡ Some n = h in cc)
number_below bound (c ∷ cs) n h =
    by_parts (list_all is_ascii_digit (c ∷ cs)) (nat_lt (digits_value 10 (c ∷ cs)) bound) refl h
  where
    by_parts : (a b : Bool)
        → nat_lt (digits_value 10 (c ∷ cs)) bound ≡ b
        → cond (a && b) (Some (digits_value 10 (c ∷ cs))) None ≡ Some n
        → n < bound
    by_parts true true e g = subst (λ m. m < bound) (same_Some _ _ g) (ltb-true _ bound e)
    by_parts true false e g = absurd (let no : None ≡ Some n = g in cc)
    by_parts false b e g = absurd (let no : None ≡ Some n = g in cc)

-- a call on one key
abbrev on : List ℕ → Op → Call
on key op = record { target = One key; op = op }

-- ---- of one request

module _ (key : List ℕ) (is : IsKey key) (flags : ℕ) (low : flags < 2 ^ 32) (own : List (List ℕ)) (block : List ℕ)
    (fits : length block ≤ limit) where
  by_storing : (word : Storing) (verb : Verb) → IsVerb word flags own verb → IsAsked (on key (op_of verb block))
  by_storing storing.Set verb v = subst (λ w. IsAsked (on key (op_of w block))) (sym v.1)
      (record { fits = fits; suits = refl; target = is; numbers = low })
  by_storing storing.Add verb v = subst (λ w. IsAsked (on key (op_of w block))) (sym v.1)
      (record { fits = fits; suits = refl; target = is; numbers = low })
  by_storing storing.Replace verb v = subst (λ w. IsAsked (on key (op_of w block))) (sym v.1)
      (record { fits = fits; suits = refl; target = is; numbers = low })
  by_storing storing.Append verb v = subst (λ w. IsAsked (on key (op_of w block))) (sym v.1)
      (record { fits = fits; suits = refl; target = is; numbers = tt })
  by_storing storing.Prepend verb v = subst (λ w. IsAsked (on key (op_of w block))) (sym v.1)
      (record { fits = fits; suits = refl; target = is; numbers = tt })
  by_storing storing.Cas verb v = subst (λ w. IsAsked (on key (op_of w block))) (sym v.4)
      (record { fits = fits; suits = refl; target = is; numbers = (low, number_below (2 ^ 64) v.0 v.1 v.3) })

store_asked : (word : Storing) (fields : List (List ℕ)) (key : List ℕ) (line : StorageLine) (block : List ℕ)
    → AreStorage word fields key line
    → length block ≤ limit
    → IsAsked (on key (op_of line.verb block))
store_asked word fields key line block h fits =
    by_storing key h.key_is h.flags (number_below (2 ^ 32) h.flags_field h.flags h.flags_is) h.own block fits word
    line.verb h.verb_is

looks_asked : (keys : List (List ℕ)) (unique : Bool)
    → IsTrue (list_all is_key keys)
    → AllAsked (calls_of (looks keys unique))
looks_asked [] unique h = tt
looks_asked (key ∷ keys) unique h =
    let p = and_parts (is_key key) (list_all is_key keys) h in
    (record { fits = tt; suits = refl; target = p.0; numbers = tt }, looks_asked keys unique p.1)

request_asked : (request : Request) (bytes : List ℕ)
    → Spells request bytes
    → AllAsked (calls_of (turns_of request))
request_asked (requests.Store key op silent) bytes s = (
  subst (λ o. IsAsked (on key o)) s.5 (store_asked s.2.storing s.2.fields key s.0 s.1 s.2.are_storage s.3),
  tt,
)
request_asked (requests.Get keys unique) bytes s = looks_asked keys unique s.1.each
request_asked (requests.Arith key (Incr amount) silent) bytes s = (
  record {
    fits = tt;
    suits = refl;
    target = s.2.key_is;
    numbers = number_below (2 ^ 64) s.2.amount_field amount s.2.amount_is;
  },
  tt,
)
request_asked (requests.Arith key (Decr amount) silent) bytes s = (
  record {
    fits = tt;
    suits = refl;
    target = s.2.key_is;
    numbers = number_below (2 ^ 64) s.2.amount_field amount s.2.amount_is;
  },
  tt,
)
request_asked (requests.Arith key Read silent) bytes s = absurd s
request_asked (requests.Arith key (Set flags block) silent) bytes s = absurd s
request_asked (requests.Arith key (Add flags block) silent) bytes s = absurd s
request_asked (requests.Arith key (Replace flags block) silent) bytes s = absurd s
request_asked (requests.Arith key (Append block) silent) bytes s = absurd s
request_asked (requests.Arith key (Prepend block) silent) bytes s = absurd s
request_asked (requests.Arith key (Cas flags block unique) silent) bytes s = absurd s
request_asked (requests.Arith key Delete silent) bytes s = absurd s
request_asked (requests.Arith key Flush silent) bytes s = absurd s
request_asked (requests.Delete key silent) bytes s =
    (record { fits = tt; suits = refl; target = s.2.key_is; numbers = tt }, tt)
request_asked (requests.Flush silent) bytes s =
    (record { fits = tt; suits = refl; target = tt; numbers = tt }, tt)
request_asked requests.Quit bytes s = tt
request_asked (requests.Bad fault) bytes s = tt

-- ---- of a stream

upto_asked : (n : ℕ) (bytes : List ℕ) → AllAsked (calls_of (flat_map turns_of (requests_upto n bytes)))
upto_asked zero bytes = tt
upto_asked (suc k) bytes = by_front (front bytes) refl (λ n. upto_asked k (drop n bytes))
  where
    unless_last : (b : Bool) (later : List Request)
        → AllAsked (calls_of (flat_map turns_of later))
        → AllAsked (calls_of (flat_map turns_of (cond b [] later)))
    unless_last true later a = tt
    unless_last false later a = a

    by_front : (f : Front)
        → front bytes ≡ f
        → ((n : ℕ) → AllAsked (calls_of (flat_map turns_of (requests_upto k (drop n bytes)))))
        → AllAsked (calls_of (flat_map turns_of (and_later f (λ n. requests_upto k (drop n bytes)))))
    by_front None e more = tt
    by_front (Some found) e more =
        let s = found_is_spelled bytes found e in
        let later = cond (is_last found.0) [] (requests_upto k (drop found.1 bytes)) in
        subst AllAsked (sym (calls_of_more (turns_of found.0) (flat_map turns_of later)))
        (both_asked (calls_of (turns_of found.0)) (calls_of (flat_map turns_of later))
        (request_asked found.0 (take found.1 bytes) s.2)
        (unless_last (is_last found.0) (requests_upto k (drop found.1 bytes)) (more found.1)))

-- clients can ask all that the bytes spell
stream_asked : (bytes : List ℕ) → AllAsked (calls_of (turns bytes))
stream_asked bytes = upto_asked (length bytes) bytes

-- also of those calls that weren't refused
made_or_later : (k : Connection) → AllAsked (unrefused (calls_of (turns k.read)) k.outcomes)
made_or_later k = unrefused_asked (calls_of (turns k.read)) k.outcomes (stream_asked k.read)

-- so they can ask the call that is to be made
pub due_asked : (k : Connection) (t : IsConnected k) (call : Call) → k.due ≡ Some call → IsAsked call
due_asked k t call e =
    one_asked k.calls (calls_of (to_come k.session)) call
    (subst AllAsked (calls_spelled k t ∙ ap (λ d. k.calls ++ (as_list d ++ calls_of (to_come k.session))) e)
    (made_or_later k))

-- and each that was made
pub made_asked : (k : Connection) (t : IsConnected k) (q : ℕ) (call : Call)
    → slice_get k.calls q ≡ Some call
    → IsAsked call
made_asked k t q call e =
    id_at k.calls (as_list k.due ++ calls_of (to_come k.session)) q call
    (subst AllAsked (calls_spelled k t) (made_or_later k)) e
