-- What the arguments of the field writers stand for (document 01, "Text of a message", "Keys and MACs").
use Rattle.std.specs.Prelude.{◌++◌, Option, option_map}
use Rattle.octets.specs.Text.{Text, ascii}
use Rattle.octets.specs.Part.{bare}
use Rattle.csm.specs.Format.{maybe_print}
use Rattle.csm.specs.Fields.{Kd, hex_text, nonempty, field, KD}
use Rattle.writer.specs.declared.Key.{Key}
use Rattle.writer.specs.declared.Vector.{Vector}
use Rattle.writer.specs.declared.Vector.TheVariants.{Plain, Enciphered}

-- KD: the key as enciphered, its mark, its names; a name of blanks alone is none
abbrev pub kd_of : Key → Kd
kd_of key = record {
  key = key.sealed;
  p = key.p;
  idk1 = nonempty (bare key.idk1);
  idk2 = nonempty (bare key.idk2);
}

-- the text of one KD or two
unfoldable pub keys_text : Key → Option Key → Text
keys_text first second = (field KD).print (kd_of first) ++ maybe_print (field KD) (option_map kd_of second)

-- IV: P and the value, or E and the enciphered value, in 16 hex digits
abbrev pub iv_of : Vector → Text
iv_of (Plain v) = ascii "P" ++ hex_text 16 v
iv_of (Enciphered v) = ascii "E" ++ hex_text 16 v
