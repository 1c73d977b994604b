-- What a writer answers, and what the reply buffer holds then.
use Rattle.std.specs.Prelude.{Bool, cond, ◌&&◌, ◌++◌, ℕ, leb, length, drop, Option, None, Some}
use Rattle.octets.specs.Text.{Text}
use Rattle.csm.specs.Message.{Reading, legal, print}

-- a reading is written where the buffer has room for a reply, 256 bytes, and the reading is legal
unfoldable pub writes : Reading → Text → Bool
writes r l = leb 256 (length l) && legal r

-- the length of its text
unfoldable pub answer : Reading → Text → Option ℕ
answer r l = cond (writes r l) (Some (length (print r))) None

-- its text, and behind it the bytes that were there
unfoldable pub buffer : Reading → Text → Text
buffer r l = cond (writes r l) (print r ++ drop (length (print r)) l) l
