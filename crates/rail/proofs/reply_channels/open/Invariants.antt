use Rattle.rail.proofs.reply_channels.open.Given as goal

abbrev pub ghosts-address : goal.ghosts-address
ghosts-address a = record { address = record { instance = a.published.now.instance; port = a.port } }
