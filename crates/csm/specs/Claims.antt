-- What is claimed of the text of a message, for every text and every reading. proofs/Claims.antt proves it.
use Rattle.std.specs.Prelude.{◌≡◌, true, ◌++◌, ◌↔◌, ℕ, ◌-◌, ◌≤◌, length, take, drop, Some}
use Prim.Native.Char.{code}
use Rattle.octets.specs.Text.{Text, ascii, all, free}
use Rattle.csm.specs.Fields.{field, MAC}
use Rattle.csm.specs.Message.{Reading, legal, print, read, text_char}
use Rattle.csm.specs.Covered.{covered, covered_part, mac_of}

-- 1 to 512 bytes: `CSM(`, characters of the set, of which no parenthesis is one, and `)`
pub record MessageText (t : Text) : Type 0 where
  pub inner : Text
  pub shape : t ≡ ascii "CSM(" ++ (inner ++ ascii ")")
  pub characters : all text_char inner ≡ true
  pub no_open : free (code "(") inner ≡ true
  pub no_close : free (code ")") inner ≡ true
  pub some_byte : 1 ≤ length t
  pub at_most : length t ≤ 512

pub record Claims : Type 0 where
  -- a text is read as r exactly when r is legal and the text is r's
  pub unique_reading : (t : Text) (r : Reading) → (read t ≡ Some r) ↔ ((legal r ≡ true) × (t ≡ print r))
  -- a text has at most one reading
  pub one_reading : (t : Text) (q r : Reading) → read t ≡ Some q → read t ≡ Some r → q ≡ r
  -- a reading has at most one text
  pub one_text : (s t : Text) (r : Reading) → read s ≡ Some r → read t ≡ Some r → s ≡ t
  -- a legal reading is read back
  pub read_print : (r : Reading) → legal r ≡ true → read (print r) ≡ Some r
  -- different legal readings have different texts
  pub print_injective : (q r : Reading) → legal q ≡ true → legal r ≡ true → print q ≡ print r → q ≡ r
  -- a text that is read has a message's length and characters
  pub message_text : (t : Text) (r : Reading) → read t ≡ Some r → MessageText t
  -- a reading's text with a MAC: `CSM(`, the part that the MAC covers, the MAC's field, `)`
  pub sealed_text : (r : Reading) (m : ℕ) → mac_of r.body ≡ Some m
      → print r ≡ ascii "CSM(" ++ (covered_part r ++ ((field MAC).print m ++ ascii ")"))
  -- the part that the MAC covers is the same from the text as from its reading
  pub covered_agrees : (t : Text) (r : Reading) (m : ℕ) → read t ≡ Some r → mac_of r.body ≡ Some m
      → covered t ≡ covered_part r
  -- and it is all between the first four bytes and the last fifteen
  pub covered_place : (t : Text) (r : Reading) (m : ℕ) → read t ≡ Some r → mac_of r.body ≡ Some m
      → covered t ≡ drop 4 (take (length t - 15) t)
