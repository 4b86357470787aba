use Rattle.node.proofs.FaceLaws.{look-face_of}
use Rattle.node.proofs.laws.looks.looks_show_the_newest.Goals as goal

-- a look at a lawful server's face shows what the server itself shows of the key
pub returns : goal.returns
returns c s key h = look-face_of s key h.sound
