use Rattle.std.proofs.Common.{rules}
use Rattle.proto.proofs.LoneGetLaws.{lone_key_found}
use Rattle.proto.proofs.front.lone_key.Goals as goal

-- a line `get KEY` that ends in CR LF is found as the get of this key
pub returns-in-Some-after-clause-found : goal.returns-in-Some-after-clause-found
returns-in-Some-after-clause-found c =
    lone_key_found c.new.result c.args.bytes.now c.in-Some.rest.now c.split_at.result.0.now c.in-Some-after.field-0.now
    c.in-Some-first_return.at c.new.ensures.bytes c.new.ensures.valid (search rules) (search rules) (search rules)
