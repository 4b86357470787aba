-- Runs whose calls take free ports: a port that is used again, and two wrong ones.
use Rattle.std.proofs.Common.{◌≡◌, ℕ, [], ◌∷◌, List, map, None, Some, true, false, refl, ap, sym, ◌∙◌, subst}
use Rattle.std.specs.Prelude.{not, codes}
use Rattle.std.specs.Option.{option_map}
use Rattle.std.proofs.lemmas.Option.{same_Some, slice_get-map}
use Rattle.table.specs.Operations.{Fits, is_update, is_value}
use Rattle.table.specs.Plain.{opening as empty_table}
use Rattle.table.specs.declared.operations.Call.{Call}
use Rattle.table.specs.declared.operations.Reply.{Reply}
use Rattle.table.specs.declared.operations.Reply.TheVariants.{Stored, Flushed}
use Rattle.node.specs.Numbering.{left_open, replies, risen, appended, passed_on, take_update, entered}
use Rattle.node.specs.Servers.{most}
use Rattle.node.specs.Steps.{trimmed}
use Rattle.node.specs.Views.{has, union, single, is_below, adds, next_from, predecessor}
use Rattle.proto.specs.Words.{line_limit}
use Rattle.world.specs.Calls.{CallId}
use Rattle.world.specs.Orders.{OrderedCall}
use Rattle.world.specs.WorkedSchedules.{name}
use Rattle.interleavings.specs.Asked.{IsAsked, AreAsked}
use Rattle.interleavings.specs.Chains.{Chain, with_at}
use Rattle.interleavings.specs.Moves.{Move, read_of}
use Rattle.interleavings.specs.Orders.{begun_call, reply_to}
use Rattle.interleavings.specs.OtherMoves.{Doing, moved_by, HasNoOrder}
use Rattle.interleavings.specs.FreePorts.{with_free_ports}
use Rattle.interleavings.specs.Pools.{PooledMove, pooled}
use Rattle.interleavings.specs.PortQueues.{QueuedServing, queued}
use Rattle.interleavings.specs.ServingMoves.{ServingChain}
use Rattle.interleavings.specs.WrongMoves.{with_taken_ports, with_old_holders}
use Rattle.interleavings.specs.WorkedRuns.{key}
use Rattle.interleavings.specs.WorkedPorts.{shared_homes, port_zero, flush, set_has_port, flush_has_port, port_moves}
use Rattle.interleavings.specs.WorkedPorts.{taken_moves, old_moves, set_is_lost, reply_is_put, port_is_free}
use Rattle.interleavings.specs.WorkedPorts.{waiting_moves, collected_moves, port_queue_is_free, queued_moves}
use Rattle.interleavings.proofs.examples.AskedCalls.{set_asked}
use Rattle.interleavings.proofs.served.Kinds.{legal_kind}

-- ---- a port that is used again

abbrev shared : List Move → Chain
shared moves = moved_by (with_free_ports shared_homes port_zero) 1 shared_homes moves

pub flush_waits : begun_call (shared set_has_port) (name 1 0) ≡ None
unfolding set_has_port with_at has union single is_below adds next_from predecessor most appended entered trimmed
    left_open replies risen passed_on take_update
flush_waits = refl

pub set_stored : reply_to (shared port_moves) (name 0 0) ≡ Some Stored
unfolding set_has_port flush_has_port with_at has union single is_below adds next_from predecessor most appended
    entered trimmed left_open replies risen passed_on take_update
set_stored = refl

pub flushed : reply_to (shared port_moves) (name 1 0) ≡ Some Flushed
unfolding set_has_port flush_has_port with_at has union single is_below adds next_from predecessor most appended
    entered trimmed left_open replies risen passed_on take_update
flushed = refl

flush_asked : IsAsked flush
flush_asked = record { fits = tt; suits = refl; target = tt; numbers = tt }

pub port_moves_asked : AreAsked port_moves
unfolding set_has_port flush_has_port
port_moves_asked =
    (set_asked, (flush_asked, (tt, (tt, (tt, (flush_asked, (tt, (tt, (tt, (tt, (tt, tt)))))))))))

-- ---- a port whose reply is collected

abbrev waited : ServingChain
waited = pooled 1 shared_homes port_zero waiting_moves

abbrev collected : ServingChain
collected = pooled 1 shared_homes port_zero collected_moves

pub none_sent : (waited.connections 1 0).calls ≡ []
unfolding set_is_lost reply_is_put with_at line_limit has union single is_below adds next_from predecessor most
    appended entered trimmed left_open replies risen passed_on take_update
none_sent = refl

pub flush_sent : (collected.connections 1 0).calls ≡ flush ∷ []
unfolding set_is_lost reply_is_put port_is_free with_at line_limit has union single is_below adds next_from predecessor
    most appended entered trimmed left_open replies risen passed_on take_update
flush_sent = refl

pub flush_written : (collected.connections 1 0).written ≡ codes "OK\r\n"
unfolding set_is_lost reply_is_put port_is_free with_at line_limit has union single is_below adds next_from predecessor
    most appended entered trimmed left_open replies risen passed_on take_update
flush_written = refl

pub none_got : (collected.connections 0 0).replies ≡ []
unfolding set_is_lost reply_is_put port_is_free with_at line_limit has union single is_below adds next_from predecessor
    most appended entered trimmed left_open replies risen passed_on take_update
none_got = refl

-- ---- the same with queues of ports

abbrev queued_run : List PooledMove → QueuedServing
queued_run moves = queued 1 shared_homes port_zero moves

pub reply_queued : (queued_run waiting_moves).queues 0 0 ≡ Stored ∷ []
unfolding set_is_lost reply_is_put with_at line_limit has union single is_below adds next_from predecessor most
    appended entered trimmed left_open replies risen passed_on take_update
reply_queued = refl

pub flush_from_queue : ((queued_run queued_moves).pooled.serving.connections 1 0).written ≡ codes "OK\r\n"
unfolding set_is_lost reply_is_put port_queue_is_free with_at line_limit has union single is_below adds next_from
    predecessor most appended entered trimmed left_open replies risen passed_on take_update
flush_from_queue = refl

pub none_queued : (queued_run queued_moves).queues 0 0 ≡ []
unfolding set_is_lost reply_is_put port_queue_is_free with_at line_limit has union single is_below adds next_from
    predecessor most appended entered trimmed left_open replies risen passed_on take_update
none_queued = refl

-- ---- no order

-- no order has a get whose reply isn't an item, nor none
get_is_stored : (does : Doing) (count : ℕ) (homes : List ℕ) (moves : List Move) (x : CallId)
    → begun_call (moved_by does count homes moves) x ≡ Some (read_of key)
    → reply_to (moved_by does count homes moves) x ≡ Some Stored
    → HasNoOrder does count homes moves
get_is_stored does count homes moves x begun stored h order =
    let a = order.answered x Stored stored in
    let e = a.1.entry in
    let id : e.id ≡ x = a.1.same in
    let called : e.call ≡ read_of key =
    same_Some _ _ (sym (order.begun a.0 e a.1.here) ∙ ap (begun_call (moved_by does count homes moves)) id ∙ begun) in
    let fits : Fits e.call.op = subst (λ (c : Call). Fits c.op) (sym called) tt in
    let kind = legal_kind empty_table (map (λ (o : OrderedCall). (o.call, o.reply)) h) a.0 (e.call, e.reply) order.legal
    (slice_get-map (λ (o : OrderedCall). (o.call, o.reply)) h a.0
    ∙ ap (option_map (λ (o : OrderedCall). (o.call, o.reply))) a.1.here) fits in
    let no : false ≡ true =
    ap is_value (sym a.2) ∙ kind ∙ ap (λ (c : Call). not (is_update c.op)) called in
    absurd (cc)

abbrev taken_run : Chain
taken_run = moved_by (with_taken_ports shared_homes port_zero) 1 shared_homes taken_moves

get_sent : begun_call taken_run (name 1 0) ≡ Some (read_of key)
unfolding taken_moves with_at has union single is_below adds next_from predecessor most appended entered trimmed
    left_open replies risen passed_on take_update
get_sent = refl

set_for_get : reply_to taken_run (name 1 0) ≡ Some Stored
unfolding taken_moves with_at has union single is_below adds next_from predecessor most appended entered trimmed
    left_open replies risen passed_on take_update
set_for_get = refl

pub taken_port : HasNoOrder (with_taken_ports shared_homes port_zero) 1 shared_homes taken_moves
taken_port =
    get_is_stored (with_taken_ports shared_homes port_zero) 1 shared_homes taken_moves (name 1 0) get_sent set_for_get

-- no order has a reply to a call that wasn't begun
reply_alone : (does : Doing) (count : ℕ) (homes : List ℕ) (moves : List Move) (x : CallId) (reply : Reply)
    → begun_call (moved_by does count homes moves) x ≡ None
    → reply_to (moved_by does count homes moves) x ≡ Some reply
    → HasNoOrder does count homes moves
reply_alone does count homes moves x reply none replied h order =
    let a = order.answered x reply replied in
    let e = a.1.entry in
    let no : None ≡ Some e.call =
    sym none ∙ ap (begun_call (moved_by does count homes moves)) (sym a.1.same) ∙ order.begun a.0 e a.1.here in
    absurd (cc)

abbrev old_run : Chain
old_run = moved_by (with_old_holders shared_homes port_zero) 1 shared_homes old_moves

one_call : begun_call old_run (name 0 1) ≡ None
unfolding old_moves with_at has union single is_below adds next_from predecessor most appended entered trimmed
    left_open replies risen passed_on take_update
one_call = refl

two_replies : reply_to old_run (name 0 1) ≡ Some Flushed
unfolding old_moves with_at has union single is_below adds next_from predecessor most appended entered trimmed
    left_open replies risen passed_on take_update
two_replies = refl

pub old_holder : HasNoOrder (with_old_holders shared_homes port_zero) 1 shared_homes old_moves
old_holder =
    reply_alone (with_old_holders shared_homes port_zero) 1 shared_homes old_moves (name 0 1) Flushed one_call
    two_replies
