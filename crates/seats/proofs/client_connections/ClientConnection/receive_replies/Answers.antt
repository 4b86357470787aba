use Rattle.std.proofs.Common.{◌≡◌, ◌∙◌, MatchBool, refl, subst, sym}
use Rattle.seats.specs.ClientConnections.{ClientConnectionState, HasHeard, seats_open}
use Rattle.seats.proofs.Seated.{later_same, later_then}
use Rattle.seats.proofs.ClientConnectionLaws.{further_same, further_then}
use Rattle.seats.proofs.HeardInTurn.{heard_more, heard_same, heard_still, heard_then, on_err}
use Rattle.seats.proofs.client_connections.ClientConnection.receive_replies.Goals as goal

pub loop-init : goal.loop-init
loop-init g c =
    record {
      known = c.requires.known;
      later = later_same _;
      first = refl;
      further = further_same _;
      looks = refl;
      unsent = refl;
      heard = refl;
      in_turn = heard_same _ _;
      unfailed = refl;
    }

pub loop-preserved : goal.loop-preserved
loop-preserved g c =
    let was = c.loop.invariant in
    let now = c.receive_reply.ensures in
    let heard = rw c.if-not-branch.false at c.in_ok-receive_reply.ensures.heard in
    record {
      known = now.known;
      later = later_then _ _ _ was.later now.later;
      first = now.first ∙ was.first;
      further = further_then _ _ _ was.further now.further;
      looks = now.looks ∙ was.looks;
      unsent = now.unsent ∙ was.unsent;
      heard = heard_more c.loop.any c.args.self.now c.loop.self c.receive_reply.new.self was.heard heard.0;
      in_turn = heard_then c.args.self.now c.loop.self c.receive_reply.new.self c.args.pool.now c.loop.pool
          c.receive_reply.new.pool _ was.later was.in_turn heard.1;
      unfailed = c.in_ok-receive_reply.ensures.unfailed ∙ was.unfailed;
    }

pub returns-then-not-branch-clause-heard : goal.returns-then-not-branch-clause-heard
returns-then-not-branch-clause-heard g c =
    let same = rw c.if-not-branch.true at c.in_ok-receive_reply.ensures.heard in
    subst (λ (t : ClientConnectionState). MatchBool c.loop.any (HasHeard c.args.self.now t) (t ≡ c.args.self.now))
    (sym same) c.loop.invariant.heard

pub returns-then-not-branch-clause-in_turn : goal.returns-then-not-branch-clause-in_turn
returns-then-not-branch-clause-in_turn g c =
    let same = rw c.if-not-branch.true at c.in_ok-receive_reply.ensures.heard in
    heard_then c.args.self.now c.loop.self c.receive_reply.new.self c.args.pool.now c.loop.pool c.receive_reply.new.pool _
    c.loop.invariant.later c.loop.invariant.in_turn
    (heard_still c.loop.self c.receive_reply.new.self c.loop.pool c.receive_reply.new.pool same c.receive_reply.ensures.later)

pub returns-in_err-receive_reply-clause-before_fault : goal.returns-in_err-receive_reply-clause-before_fault
returns-in_err-receive_reply-clause-before_fault g c =
    on_err c.from_residual.result _ (
      seats_open c.loop.self.standing c.loop.self.ahead,
      heard_then c.args.self.now c.loop.self c.receive_reply.new.self c.args.pool.now c.loop.pool c.receive_reply.new.pool
          (seats_open c.loop.self.standing c.loop.self.ahead) c.loop.invariant.later c.loop.invariant.in_turn
          c.in_err-receive_reply.ensures.unheard,
    )

pub returns-else-not-branch-clause-in_turn : goal.returns-else-not-branch-clause-in_turn
returns-else-not-branch-clause-in_turn g c =
    let heard = rw c.if-not-branch.false at c.in_ok-receive_reply.ensures.heard in
    heard_then c.args.self.now c.loop.self c.receive_reply.new.self c.args.pool.now c.loop.pool c.receive_reply.new.pool _
    c.loop.invariant.later c.loop.invariant.in_turn heard.1
