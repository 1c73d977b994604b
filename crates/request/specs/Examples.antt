-- A request of 74 bytes worked out, byte by byte. Proved as `examples` in proofs/Examples.antt.
use Rattle.std.specs.Prelude.{◌≡◌, [], ◌∷◌, ◌++◌, length, take}
use Rattle.octets.specs.Text.{Text, ascii}
use Rattle.calls.specs.declared.Request.{Request}
use Rattle.request.specs.Request.{request_in}

-- a request with every part different
abbrev pub request_bytes : Text
request_bytes =
    2 ∷ []
    ++ 0x11 ∷ 0x12 ∷ 0x13 ∷ 0x14 ∷ 0x15 ∷ 0x16 ∷ 0x17 ∷ 0x18 ∷ [] ++ 5 ∷ [] ++ ascii "A1              "
    ++ 0x21 ∷ 0x22 ∷ 0x23 ∷ 0x24 ∷ 0x25 ∷ 0x26 ∷ 0x27 ∷ 0x28 ∷ [] ++ 3 ∷ [] ++ ascii "B23456          "
    ++ 7 ∷ [] ++ 0x31 ∷ 0x32 ∷ 0x33 ∷ 0x34 ∷ 0x35 ∷ 0x36 ∷ 0x37 ∷ 0x38 ∷ []
    ++ 1 ∷ [] ++ ascii "840229235959" ++ 9 ∷ []

abbrev pub request : Request
request = record {
  count = 2;
  first = record { key = 0x1112131415161718; flags = 5; name = record { bytes = ascii "A1              " } };
  second = record { key = 0x2122232425262728; flags = 3; name = record { bytes = ascii "B23456          " } };
  kind = 7;
  iv = 0x3132333435363738;
  dated = 1;
  date = record { digits = ascii "840229235959" };
  notarized = 9;
}

pub record Examples : Type 0 where
  -- number of keys 1; twice key 8, flags 1, name 16; IV kind 1, IV 8; date flag 1, date 12; notarized 1
  pub request_length : length request_bytes ≡ 74
  pub request_read : request_in request_bytes ≡ request
  -- another length is a request of no keys
  pub one_byte_short : (request_in (take 73 request_bytes)).count ≡ 0
  pub one_byte_long : (request_in (request_bytes ++ 0 ∷ [])).count ≡ 0
