use Rattle.std.proofs.Common.{◌≡◌, ◌+◌, ◌-◌, ◌<◌, ◌++◌, ◌∷◌, [], length, arith, sym, ◌∙◌, length-append}
use Rattle.std.proofs.lemmas.Bool.Decides.{nat_tests}
use Rattle.schedules.proofs.Texts.{read_on-front, read_on-none, read_on-end}
use Rattle.schedules.proofs.escapes.unescape.Goals as goal

-- if the front of what is left spells no byte, the text spells none
pub returns-in_default : goal.returns-in_default
returns-in_default c =
    let some : 0 < length c.loop-rest.rest.now = grind (arith, nat_tests, c.is_empty.ensures, c.loop-rest-test.true) in
    read_on-none c.loop-rest.bytes.items _ (length c.args.text.now - length c.loop-rest.bytes.items - 1)
    c.loop-rest.rest.now (omega (arith, c.loop-rest.invariant.room)) some c.in_default.ensures.front
    ∙ c.loop-rest.invariant.read

-- one more byte is read
pub loop-rest-preserved : goal.loop-rest-preserved
loop-rest-preserved c =
    let some : 0 < length c.loop-rest.rest.now = grind (arith, nat_tests, c.is_empty.ensures, c.loop-rest-test.true) in
    let now : length (c.loop-rest.bytes.items ++ c.in-Some.b ∷ []) ≡ length c.loop-rest.bytes.items + 1 =
    simp length-append in
    rw c.in_ok-push.ensures.items (record {
      room = omega (arith, now, c.in-Some.ensures.shorter, c.loop-rest.invariant.room);
      read = sym (read_on-front c.loop-rest.bytes.items _ _ c.loop-rest.rest.now c.in-Some.b c.in-Some.later.now
          (omega (arith, now, c.loop-rest.invariant.room)) some c.in-Some.ensures.front)
          ∙ c.loop-rest.invariant.read;
    })

-- with nothing left, all bytes of the text are read
pub returns : goal.returns
returns c =
    let none : length c.loop-rest.rest.now ≡ 0 = grind (arith, nat_tests, c.is_empty.ensures, c.loop-rest-test.false) in
    read_on-end c.loop-rest.bytes.items _ c.loop-rest.rest.now none ∙ c.loop-rest.invariant.read
