use Rattle.std.proofs.Common.{ap, rules}
use Rattle.std.proofs.lemmas.Result.{MatchResult-from_err}
use Rattle.seats.proofs.Looked.{looked_on_still, looked_unlimited, none_if_unlimited}
use Rattle.seats.proofs.SentInTurn.{sent_then}
use Rattle.seats.proofs.client_connections.ClientConnection.advance.Goals as goal

pub returns-in_err-go_ahead-in-Reply-clause-looked : goal.returns-in_err-go_ahead-in-Reply-clause-looked
returns-in_err-go_ahead-in-Reply-clause-looked g c =
    let went = rw c.in-Reply.is at c.in_ok-went.ensures.looked in
    let same = c.in_err-go_ahead-in-Reply.ensures.same.connected in
    MatchResult-from_err c.from_residual-in_err-go_ahead-in-Reply.result _ _ (search rules)
    (λ e. looked_on_still c.args.self.now.connected c.advance_alone.new.self.connected c.go_ahead.new.self.connected
    c.args.pool.now c.advance_alone.new.pool c.go_ahead.new.pool went (ap (λ x. x.calls) same) (ap (λ x. x.outcomes) same)
    c.in_err-go_ahead-in-Reply.ensures.pool.1)

pub returns-in_ok-go_ahead-in-Reply-clause-looked : goal.returns-in_ok-go_ahead-in-Reply-clause-looked
returns-in_ok-go_ahead-in-Reply-clause-looked g c =
    let went = rw c.in-Reply.is at c.in_ok-went.ensures.looked in
    let same = c.in_ok-go_ahead-in-Reply.ensures.same.connected in
    looked_on_still c.args.self.now.connected c.advance_alone.new.self.connected c.go_ahead.new.self.connected
    c.args.pool.now c.advance_alone.new.pool c.go_ahead.new.pool went (ap (λ x. x.calls) same) (ap (λ x. x.outcomes) same)
    c.in_ok-go_ahead-in-Reply.ensures.pool.1

pub returns-in_err-go_ahead-in-Reply-clause-sent : goal.returns-in_err-go_ahead-in-Reply-clause-sent
returns-in_err-go_ahead-in-Reply-clause-sent g c =
    let went = rw c.in-Reply.is at c.in_ok-went.ensures.went in
    sent_then c.args.self.now c.advance_alone.new.self c.go_ahead.new.self c.args.pool.now c.advance_alone.new.pool c.go_ahead.new.pool went.0
    went.1
    c.advance_alone.ensures.sent c.go_ahead.ensures.on

pub returns-in_ok-go_ahead-in-Reply-clause-sent : goal.returns-in_ok-go_ahead-in-Reply-clause-sent
returns-in_ok-go_ahead-in-Reply-clause-sent g c =
    let went = rw c.in-Reply.is at c.in_ok-went.ensures.went in
    sent_then c.args.self.now c.advance_alone.new.self c.go_ahead.new.self c.args.pool.now c.advance_alone.new.pool c.go_ahead.new.pool went.0
    went.1
    c.advance_alone.ensures.sent c.go_ahead.ensures.on

pub returns-in_err-go_ahead-in-Reply-clause-refused : goal.returns-in_err-go_ahead-in-Reply-clause-refused
returns-in_err-go_ahead-in-Reply-clause-refused g c =
    none_if_unlimited _ c.args.self.now.connected c.go_ahead.new.self.connected c.args.pool.now c.go_ahead.new.pool
    (returns-in_err-go_ahead-in-Reply-clause-looked g c)

pub returns-in_ok-go_ahead-in-Reply-clause-refused : goal.returns-in_ok-go_ahead-in-Reply-clause-refused
returns-in_ok-go_ahead-in-Reply-clause-refused g c =
    looked_unlimited c.args.self.now.connected c.go_ahead.new.self.connected c.args.pool.now c.go_ahead.new.pool
    (returns-in_ok-go_ahead-in-Reply-clause-looked g c)

pub returns-in_err-went-clause-refused : goal.returns-in_err-went-clause-refused
returns-in_err-went-clause-refused g c =
    none_if_unlimited c.advance_alone.result c.args.self.now.connected c.advance_alone.new.self.connected c.args.pool.now
    c.advance_alone.new.pool c.advance_alone.ensures.looked

pub returns-in_default-clause-refused : goal.returns-in_default-clause-refused
returns-in_default-clause-refused g c =
    none_if_unlimited c.advance_alone.result c.args.self.now.connected c.advance_alone.new.self.connected c.args.pool.now
    c.advance_alone.new.pool c.advance_alone.ensures.looked
