-- Messages: what is read was spelled, and what was spelled is read.
use Rattle.std.proofs.Common.{◌≡◌, ℕ, cond, eqb, List, [], ◌++◌, length, Option, Some, None}
use Rattle.std.proofs.Common.{refl, sym, ap, subst, ◌∙◌, inl, inr}
use Rattle.std.specs.Prelude.{IfSome}
use Rattle.std.proofs.lemmas.Bool.{eqb-true}
use Rattle.std.proofs.lemmas.Option.{cond_some}
use Rattle.std.proofs.lemmas.List.{append-nil, nil_from_length}
use Rattle.successions.specs.declared.orders.Order.{Order}
use Rattle.successions.specs.declared.orders.Order.TheVariants.{Seal, Resume, Poll, Switch, Open}
use Rattle.successions.specs.declared.orders.Report.{Report}
use Rattle.seals.specs.declared.markers.Marker.{Marker}
use Rattle.chain_status.specs.declared.reports.ServerReport.{ServerReport}
use Rattle.control_messages.specs.declared.messages.ControlMessage.{ControlMessage}
use Rattle.control_messages.specs.declared.messages.ControlMessage.TheVariants as messages
use Rattle.control_messages.specs.Spellings.{AreNumbers, HasMarkerWidths, HasOrderWidths, HasServerWidths, HasWidths}
use Rattle.control_messages.specs.Spellings.{Spells, alone, marker_numbers, numbers_of, order_numbers, report_numbers}
use Rattle.control_messages.specs.Spellings.{server_numbers, spelled}
use Rattle.control_messages.specs.Readings.{◌>>=◌, Gives, Read, number_at, order_at, report_at, marker_at, server_at}
use Rattle.control_messages.specs.Readings.{made_at, message_at, message_in, of_kind_at}
use Rattle.control_messages.proofs.Spelled.{spelled_none}
use Rattle.control_messages.proofs.Formats.{IsBytes, Takes, bind_some, bind_at, made_again, nothing}
use Rattle.control_messages.proofs.Formats.{some_is}
use Rattle.control_messages.proofs.Choices.{chosen, picked, tag_again}
use Rattle.control_messages.proofs.Fields.{number}
use Rattle.control_messages.proofs.Orders.{order_again, order_takes, said_of}
use Rattle.control_messages.proofs.Reports.{Reported, marker, report}
use Rattle.control_messages.proofs.Servers.{server}

-- an order, as a message
as_order : (n : ℕ) (bytes after : List ℕ) (m : ControlMessage) (rest : List ℕ)
    → Takes (alone n) (Unit {0}) bytes after
    → made_at messages.Order (order_at n) after ≡ Some (m, rest)
    → Takes (numbers_of m) (HasWidths m) bytes rest
as_order n bytes after m rest t e =
    let a = bind_some (order_at n after) (λ x. Some (messages.Order x.0, x.1)) (m, rest) e in
    let read : ControlMessage × List ℕ = (messages.Order a.0.0, a.0.1) in
    subst (λ (y : ControlMessage × List ℕ). Takes (numbers_of y.0) (HasWidths y.0) bytes y.1)
    (some_is read (m, rest) a.2) (order_takes n bytes after a.0.0 a.0.1 t a.1)

-- what is read after a kind
kind_takes : (n : ℕ) (bytes after : List ℕ) (m : ControlMessage) (rest : List ℕ)
    → Takes (alone n) (Unit {0}) bytes after
    → of_kind_at n after ≡ Some (m, rest)
    → Takes (numbers_of m) (HasWidths m) bytes rest
unfolding of_kind_at
kind_takes n bytes after m rest t e =
    elim (chosen (eqb n 6) _ _ _ e) [
      | inl six ↦
          picked report_at report_numbers Reported (λ (r : Report). messages.Report r) numbers_of HasWidths n 6 bytes
          after m rest report (λ r. refl) (λ r h. h) t six.0 six.1
      | inr e6 ↦ elim (chosen (eqb n 7) _ _ _ e6.1) [
        | inl seven ↦
            picked marker_at marker_numbers HasMarkerWidths (λ (k : Marker). messages.Marker k) numbers_of HasWidths n 7
            bytes after m rest marker (λ k. refl) (λ k h. h) t seven.0 seven.1
        | inr e7 ↦ elim (chosen (eqb n 8) _ _ _ e7.1) [
          | inl eight ↦
              picked {A = Unit {0}} (λ bytes. Some (tt, bytes)) (λ u. []) (λ u. Unit {0}) (λ u. messages.StatusQuestion)
              numbers_of HasWidths n 8 bytes after m rest nothing (λ u. refl) (λ u h. tt) t eight.0 eight.1
          | inr e8 ↦ elim (chosen (eqb n 9) _ _ _ e8.1) [
            | inl nine ↦
                picked server_at server_numbers HasServerWidths (λ (r : ServerReport). messages.Status r) numbers_of
                HasWidths n 9 bytes after m rest server (λ r. refl) (λ r h. h) t nine.0 nine.1
            | inr e9 ↦ as_order n bytes after m rest t e9.1
          ]
        ]
      ]
    ]

message_takes : (bytes : List ℕ) (m : ControlMessage) (rest : List ℕ)
    → IsBytes bytes
    → message_at bytes ≡ Some (m, rest)
    → Takes (numbers_of m) (HasWidths m) bytes rest
unfolding message_at
message_takes bytes m rest fits e =
    let a = bind_some (number_at bytes) (λ n. of_kind_at n.0 n.1) (m, rest) e in
    kind_takes a.0.0 bytes a.0.1 m rest (number.takes bytes a.0.0 a.0.1 fits a.1) a.2

-- an order that was read, as a message
abbrev as_message : Order × List ℕ → Read ControlMessage
as_message x = Some (messages.Order x.0, x.1)

made_order : (read : Read Order) (x : Order) (rest : List ℕ)
    → read ≡ Some (x, rest)
    → (read >>= as_message) ≡ Some (messages.Order x, rest)
made_order read x rest e = bind_at read as_message (x, rest) (Some (messages.Order x, rest)) e refl

order_message : (x : Order) (rest : List ℕ)
    → AreNumbers (order_numbers x)
    → HasOrderWidths x
    → message_at (spelled (order_numbers x) ++ rest) ≡ Some (messages.Order x, rest)
unfolding message_at of_kind_at
order_message (Seal epoch generation next) rest each fits =
    let x = Seal epoch generation next in
    tag_again number of_kind_at 1 (said_of x) rest (messages.Order x) each
    (made_order (order_at 1 (spelled (said_of x) ++ rest)) x rest (order_again x rest each.1 fits))
order_message (Resume epoch generation) rest each fits =
    let x = Resume epoch generation in
    tag_again number of_kind_at 2 (said_of x) rest (messages.Order x) each
    (made_order (order_at 2 (spelled (said_of x) ++ rest)) x rest (order_again x rest each.1 fits))
order_message (Poll epoch) rest each fits =
    let x = Poll epoch in
    tag_again number of_kind_at 3 (said_of x) rest (messages.Order x) each
    (made_order (order_at 3 (spelled (said_of x) ++ rest)) x rest (order_again x rest each.1 fits))
order_message (Switch epoch generation next count) rest each fits =
    let x = Switch epoch generation next count in
    tag_again number of_kind_at 4 (said_of x) rest (messages.Order x) each
    (made_order (order_at 4 (spelled (said_of x) ++ rest)) x rest (order_again x rest each.1 fits))
order_message (Open epoch generation own) rest each fits =
    let x = Open epoch generation own in
    tag_again number of_kind_at 5 (said_of x) rest (messages.Order x) each
    (made_order (order_at 5 (spelled (said_of x) ++ rest)) x rest (order_again x rest each.1 fits))

message_again : (m : ControlMessage) (rest : List ℕ)
    → AreNumbers (numbers_of m)
    → HasWidths m
    → message_at (spelled (numbers_of m) ++ rest) ≡ Some (m, rest)
unfolding message_at of_kind_at
message_again (messages.Order x) rest each fits = order_message x rest each fits
message_again (messages.Report r) rest each fits =
    tag_again number of_kind_at 6 (report_numbers r) rest (messages.Report r) each
    (made_again report_at report_numbers Reported (λ (r : Report). messages.Report r) r rest report each.1 fits)
message_again (messages.Marker k) rest each fits =
    tag_again number of_kind_at 7 (marker_numbers k) rest (messages.Marker k) each
    (made_again marker_at marker_numbers HasMarkerWidths (λ (k : Marker). messages.Marker k) k rest marker each.1 fits)
message_again messages.StatusQuestion rest each fits =
    tag_again number of_kind_at 8 [] rest messages.StatusQuestion each
    (ap (λ (t : List ℕ). Some (messages.StatusQuestion, t ++ rest)) spelled_none)
message_again (messages.Status r) rest each fits =
    tag_again number of_kind_at 9 (server_numbers r) rest (messages.Status r) each
    (made_again server_at server_numbers HasServerWidths (λ (r : ServerReport). messages.Status r) r rest server each.1
    fits)

-- what all of the bytes are read as is what they spell
in_takes : (bytes : List ℕ) (m : ControlMessage) → IsBytes bytes → message_in bytes ≡ Some m → Spells m bytes
unfolding message_in
in_takes bytes m fits e =
    let a = bind_some (message_at bytes) (λ x. cond (eqb (length x.1) 0) (Some x.0) None) m e in
    let g = cond_some (eqb (length a.0.1) 0) a.0.0 m a.2 in
    let none : a.0.1 ≡ [] = nil_from_length a.0.1 (eqb-true _ _ g.0) in
    let t = message_takes bytes a.0.0 a.0.1 fits a.1 in
    let same : bytes ≡ spelled (numbers_of a.0.0) =
    t.parts ∙ ap (λ (rest : List ℕ). spelled (numbers_of a.0.0) ++ rest) none
    ∙ append-nil (spelled (numbers_of a.0.0)) in
    let whole : Spells a.0.0 bytes = record {
      message = record { numbers = t.each; widths = t.fits };
      same = same;
    } in
    subst (λ (m : ControlMessage). Spells m bytes) g.1 whole

-- what bytes spell is what all of them are read as
pub in_again : (m : ControlMessage) (bytes : List ℕ) → Spells m bytes → message_in bytes ≡ Some m
unfolding message_in
in_again m bytes s =
    ap message_in (s.same ∙ sym (append-nil (spelled (numbers_of m))))
    ∙ bind_at (message_at (spelled (numbers_of m) ++ [])) (λ x. cond (eqb (length x.1) 0) (Some x.0) None) (m, [])
    (Some m) (message_again m [] s.message.numbers s.message.widths) refl

-- what was found is spelled so
pub is_found : (bytes : List ℕ) (r : Option ControlMessage)
    → IsBytes bytes
    → Gives (λ m. m) r (message_in bytes)
    → IfSome r (λ m. Spells m bytes)
is_found bytes (Some m) fits given = in_takes bytes m fits given
is_found bytes None fits given = tt

-- what is spelled so was found
pub is_only : (bytes : List ℕ) (r : Option ControlMessage) (m : ControlMessage)
    → Gives (λ m. m) r (message_in bytes)
    → Spells m bytes
    → r ≡ Some m
is_only bytes (Some x) m given s = sym given ∙ in_again m bytes s
is_only bytes None m given s = sym given ∙ in_again m bytes s

-- no bytes spell two messages
pub one_message : (m other : ControlMessage) (bytes : List ℕ) → Spells m bytes → Spells other bytes → m ≡ other
one_message m other bytes s t = some_is m other (sym (in_again m bytes s) ∙ in_again other bytes t)
