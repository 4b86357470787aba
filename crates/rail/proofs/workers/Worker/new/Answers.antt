use Rattle.std.proofs.Common.{◌≡◌, sym, subst, ℕ, rules}
use Rattle.faces.specs.Histories.{History, server_after}
use Rattle.node.specs.Replies.{AreOpenBelow}
use Rattle.rail.specs.Turns.{AreReplySenders}
use Rattle.rail.proofs.workers.Worker.new.Goals as goal

pub invariant_of-result : goal.invariant_of-result
invariant_of-result g c =
    let told : c.tell-told.result ≡ c.args.publisher.published = search rules in
    record {
      placed = subst (λ (x : History). AreReplySenders x.instance 0 c.args.reply_senders.items) (sym told)
          c.requires.reply_senders;
      as_many = sym c.requires.ports;
      closed = λ none. absurd (cc (none));
      going = (
        sym told,
        c.requires.lawful,
        subst (λ (n : ℕ). AreOpenBelow n (server_after c.args.publisher.published))
            (sym c.requires.ports) c.requires.«open»,
        c.requires.going,
      );
    }
