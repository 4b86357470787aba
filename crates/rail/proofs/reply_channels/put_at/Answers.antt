use Rattle.crossbeam_channel.specs.Claims.{view}
use Rattle.crossbeam_channel.specs.Ends.{sends_on, ruled_capacity}
use Rattle.rail.specs.ReplyMessages.{address_of}
use Rattle.std.proofs.Common.{refl}
use Rattle.rail.proofs.ReplyQueues.{puts}
use Rattle.rail.proofs.reply_channels.put_at.Goals as goal

pub send_as-requires-clause-rule : goal.send_as-requires-clause-rule
send_as-requires-clause-rule g c =
    let pass = c.args.pass.now in
    rw (c.requires.address) (
      puts (ruled_capacity (sends_on c.args.to.now)) pass.id (address_of c.args.reply_message) (view pass).list
          c.args.reply_message
          refl,
      λ items views h at. tt,
    )
