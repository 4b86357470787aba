-- Loops over calls, entries and reads: each puts out its part, one after another.
use Rattle.std.proofs.Common.{◌≡◌, List, [], ◌∷◌, ◌++◌, length, refl, sym, ap, ◌∙◌, arith, append_assoc, append-nil}
use Rattle.table.specs.declared.operations.Reply.TheVariants.{Value}
use Rattle.versions.specs.Entries.{LogEntry}
use Rattle.versions.specs.Stores.{value_at, last_number}
use Rattle.node.specs.declared.servers.OpenUpdate.{OpenUpdate}
use Rattle.node.specs.declared.servers.OpenRead.{OpenRead}
use Rattle.node.specs.declared.messages.Body.TheVariants.{Op, Forward, Query}
use Rattle.node.specs.declared.messages.Output.{Output}
use Rattle.node.specs.Servers.{ServerState, successor_of, head_of, tail_of, message_to, reply_at}
use Rattle.node.specs.Joining.{sent_again, forwarded, replies_to, asked_again}

one_more : (whole done part after rest all : List Output)
    → whole ≡ done ++ all
    → all ≡ part ++ rest
    → after ≡ done ++ part
    → whole ≡ after ++ rest
one_more whole done part after rest all h is put =
    h ∙ ap (λ r. done ++ r) is ∙ sym (append_assoc done part rest) ∙ ap (λ d. d ++ rest) (sym put)

no_more : (whole done all : List Output) → whole ≡ done ++ all → all ≡ [] → done ≡ whole
no_more whole done all h is = sym (h ∙ ap (λ r. done ++ r) is ∙ append-nil done)

forwarded_more : (s : ServerState) (rest es : List LogEntry) (e : LogEntry)
    → rest ≡ e ∷ es
    → forwarded s rest ≡ message_to s (successor_of s) (Forward e) ++ forwarded s es
unfolding forwarded
forwarded_more s rest es e is = rw is refl

forwarded_none : (s : ServerState) (rest : List LogEntry) → length rest ≡ 0 → forwarded s rest ≡ []
unfolding forwarded
forwarded_none s [] is = refl
forwarded_none s (e ∷ es) is = absurd (omega arith)

-- one more entry is forwarded, and those after it are left
pub forwarded_step : (s : ServerState) (rest es : List LogEntry) (e : LogEntry) (whole done after : List Output)
    → rest ≡ e ∷ es
    → whole ≡ done ++ forwarded s rest
    → after ≡ done ++ message_to s (successor_of s) (Forward e)
    → whole ≡ after ++ forwarded s es
forwarded_step s rest es e whole done after is h put =
    one_more whole done _ after _ _ h (forwarded_more s rest es e is) put

-- with no entry left, all are forwarded
pub forwarded_end : (s : ServerState) (rest : List LogEntry) (whole done : List Output)
    → length rest ≡ 0
    → whole ≡ done ++ forwarded s rest
    → done ≡ whole
forwarded_end s rest whole done none h = no_more whole done _ h (forwarded_none s rest none)

sent_more : (s : ServerState) (rest us : List OpenUpdate) (u : OpenUpdate)
    → rest ≡ u ∷ us
    → sent_again s rest ≡ message_to s (head_of s) (Op u.id u.call) ++ sent_again s us
unfolding sent_again
sent_more s rest us u is = rw is refl

sent_none : (s : ServerState) (rest : List OpenUpdate) → length rest ≡ 0 → sent_again s rest ≡ []
unfolding sent_again
sent_none s [] is = refl
sent_none s (u ∷ us) is = absurd (omega arith)

-- one more own call is sent to the head again, and those after it are left
pub sent_step : (s : ServerState) (rest us : List OpenUpdate) (u : OpenUpdate) (whole done after : List Output)
    → rest ≡ u ∷ us
    → whole ≡ done ++ sent_again s rest
    → after ≡ done ++ message_to s (head_of s) (Op u.id u.call)
    → whole ≡ after ++ sent_again s us
sent_step s rest us u whole done after is h put = one_more whole done _ after _ _ h (sent_more s rest us u is) put

-- with no own call left, all are sent again
pub sent_end : (s : ServerState) (rest : List OpenUpdate) (whole done : List Output)
    → length rest ≡ 0
    → whole ≡ done ++ sent_again s rest
    → done ≡ whole
sent_end s rest whole done none h = no_more whole done _ h (sent_none s rest none)

asked_more : (s : ServerState) (rest rs : List OpenRead) (r : OpenRead)
    → rest ≡ r ∷ rs
    → asked_again s rest ≡ message_to s (tail_of s) (Query r.ask r.key) ++ asked_again s rs
unfolding asked_again
asked_more s rest rs r is = rw is refl

asked_none : (s : ServerState) (rest : List OpenRead) → length rest ≡ 0 → asked_again s rest ≡ []
unfolding asked_again
asked_none s [] is = refl
asked_none s (r ∷ rs) is = absurd (omega arith)

-- one more open read asks the tail again, and those after it are left
pub asked_step : (s : ServerState) (rest rs : List OpenRead) (r : OpenRead) (whole done after : List Output)
    → rest ≡ r ∷ rs
    → whole ≡ done ++ asked_again s rest
    → after ≡ done ++ message_to s (tail_of s) (Query r.ask r.key)
    → whole ≡ after ++ asked_again s rs
asked_step s rest rs r whole done after is h put = one_more whole done _ after _ _ h (asked_more s rest rs r is) put

-- with no open read left, all have asked again
pub asked_end : (s : ServerState) (rest : List OpenRead) (whole done : List Output)
    → length rest ≡ 0
    → whole ≡ done ++ asked_again s rest
    → done ≡ whole
asked_end s rest whole done none h = no_more whole done _ h (asked_none s rest none)

replied_more : (s : ServerState) (rest rs : List OpenRead) (r : OpenRead)
    → rest ≡ r ∷ rs
    → replies_to s rest ≡ reply_at r.port (Value (value_at s.store r.key (last_number s.store))) ++ replies_to s rs
unfolding replies_to
replied_more s rest rs r is = rw is refl

replied_none : (s : ServerState) (rest : List OpenRead) → length rest ≡ 0 → replies_to s rest ≡ []
unfolding replies_to
replied_none s [] is = refl
replied_none s (r ∷ rs) is = absurd (omega arith)

-- one more open read is answered, and those after it are left
pub replied_step : (s : ServerState) (rest rs : List OpenRead) (r : OpenRead) (whole done after : List Output)
    → rest ≡ r ∷ rs
    → whole ≡ done ++ replies_to s rest
    → after ≡ done ++ reply_at r.port (Value (value_at s.store r.key (last_number s.store)))
    → whole ≡ after ++ replies_to s rs
replied_step s rest rs r whole done after is h put = one_more whole done _ after _ _ h (replied_more s rest rs r is) put

-- with no open read left, all are answered
pub replied_end : (s : ServerState) (rest : List OpenRead) (whole done : List Output)
    → length rest ≡ 0
    → whole ≡ done ++ replies_to s rest
    → done ≡ whole
replied_end s rest whole done none h = no_more whole done _ h (replied_none s rest none)
