use Rattle.std.proofs.Common.{◌≡◌, ◌++◌, ◌∷◌, [], length, rules, subst}
use Rattle.links.specs.GreeterInlets.{waiting}
use Rattle.craq_server.specs.Wiring.{IsSeated}
use Rattle.craq_server.proofs.Dealt.{placed}
use Rattle.craq_server.proofs.peer_setup.all_greeter_inlets.Goals as goal

pub returns-in-Some : goal.returns-in-Some
returns-in-Some c =
    let numbers = c.args.settings.now.numbers in
    let before = c.args.inlets.items in
    let after = c.inlets_for_all.new.inlets.items in
    let taken = c.in_ok-greeter_inlets.greeter_inlets.items in
    let id : c.from.result ≡ c.args.settings.now.numbers.id = search rules in
    let size : length c.in_ok-greeter_inlets.greeter_inlets.items ≡ c.args.settings.now.numbers.servers = search
    rules in
    let left : c.inlets_for_all.new.inlets.items ≡ c.pop.new.self.items ++ c.in-Some.notices ∷ [] = search rules in
    placed numbers.id numbers.servers before after c.pop.new.self.items c.in-Some.notices taken (waiting c.in_ok-links-in-Some.links)
    (subst (λ n. IsSeated n c.args.inlets.items c.inlets_for_all.new.inlets.items
    c.in_ok-greeter_inlets.greeter_inlets.items) id
    c.in_ok-greeter_inlets.ensures.seated) size left c.in_ok-links-in-Some.ensures.inlets
