use Rattle.std.proofs.Common.{◌≡◌, ◌%◌, ◌∙◌, ap, arith, refl, rules}
use Rattle.in_process_links.specs.ServerSets.{has_server}
use Rattle.in_process_links.proofs.ServerBits.{bit_set, has_bit, no_bit, one_fewer_bit, set_bit}
use Rattle.in_process_links.proofs.server_sets.ServerSet.take_after.Goals as goal

pub returns-then-self-eq0-clause-taken : goal.returns-then-self-eq0-clause-taken
unfolding has_server
returns-then-self-eq0-clause-taken c = (
  refl,
  λ id.
      let none : c.args.self.now.bits ≡ 0 = search rules in
      ap (λ n. has_bit n id) none ∙ no_bit id,
)

pub returns-clause-taken : goal.returns-clause-taken
unfolding has_server
returns-clause-taken c =
    let found = c.first_after-id.ensures in
    let id = c.first_after-id.result in
    let same : id % 32 ≡ id = omega (arith, found.server) in
    record {
      server = found.server;
      had = set_bit c.args.self.now.bits id found.had;
      left = λ j. rw (c.bit.ensures, same) (one_fewer_bit c.args.self.now.bits id j (omega arith) found.server);
    }

pub returns-clause-first : goal.returns-clause-first
unfolding has_server
returns-clause-first c j had = c.first_after-id.ensures.first j (bit_set c.args.self.now.bits j had)
