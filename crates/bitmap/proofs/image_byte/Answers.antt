-- `image_byte` gives `byte_at`: half a word with its bits in reverse.
use Rattle.bitmap.proofs.ByteLaws.{byte_is}
use Rattle.bitmap.proofs.image_byte.Goals as goal

pub returns : goal.returns
returns c = byte_is _ _ _ _ c.word_at-word.ensures c.half.ensures c.reversed.ensures
