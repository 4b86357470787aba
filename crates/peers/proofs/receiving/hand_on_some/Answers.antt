use Rattle.std.proofs.Common.{Err, ap, sym, subst, rules, ◌∙◌, [], ◌∷◌, ◌++◌, append_assoc}
use Rattle.wire.specs.declared.ends.PeerEnd.TheVariants as ends
use Rattle.wire.specs.Ends.{IsEnd}
use Rattle.wire.specs.Grammar.{IsFirst}
use Rattle.wire.proofs.EndLaws.{malformed_ends, old_ends, one_more}
use Rattle.peers.proofs.Hearing.{heard_one}
use Rattle.peers.proofs.receiving.hand_on_some.Goals as goal

pub returns-in-Err-Malformed-clause-stops : goal.returns-in-Err-Malformed-clause-stops
returns-in-Err-Malformed-clause-stops g c =
    let next = c.in-Err-Malformed.ensures in
    subst (λ unread. IsEnd unread ends.Malformed) (sym next.stays)
    (malformed_ends _ (next.malformed.0 (ap Err c.in-Err-Malformed.field-0-is)))

pub returns-in-Err-OldFormat-clause-stops : goal.returns-in-Err-OldFormat-clause-stops
returns-in-Err-OldFormat-clause-stops g c =
    let next = c.in-Err-OldFormat.ensures in
    subst (λ unread. IsEnd unread ends.Old) (sym next.stays)
    (old_ends _ (next.old_format.0 (ap Err c.in-Err-OldFormat.field-0-is)))

pub frames-preserved : goal.frames-preserved
frames-preserved g c =
    let took = c.in_ok-take-in-Ok-Some.ensures in
    let so_far = c.frames.invariant.stands in
    let first : IsFirst c.in-Ok-Some.whole c.frames.frames.unread c.next.new.self.unread = search rules in
    record {
      open_still = search rules;
      stands = record {
        handed = so_far.handed ++ c.in-Ok-Some.whole ∷ [];
        first = one_more so_far.handed c.in-Ok-Some.whole c.args.frames.now.unread c.frames.frames.unread
            c.next.new.self.unread so_far.first first;
        taken = took.taken
            ∙ (ap (λ fs. fs ++ c.in-Ok-Some.whole ∷ []) so_far.taken
            ∙ append_assoc (g.T.Taker.taken c.args.taker.now) so_far.handed (c.in-Ok-Some.whole ∷ []));
      };
      heard = heard_one g.T.Taker.hears g.T.Taker.misses g.T.Taker.taken c.args.taker.now c.frames.taker c.take.new.self
          c.in-Ok-Some.whole c.frames.invariant.heard took.taken took.heard;
      takes = search rules;
    }
