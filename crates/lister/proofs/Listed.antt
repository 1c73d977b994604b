-- The class of a message as the reader shows it is the class of its reading.
use Rattle.std.specs.Prelude.{Option, None, Some, option_map}
use Rattle.std.proofs.Common.{◌≡◌, ◌<◌, Bool, true, false, ◌&&◌, leb, length, take, refl, ap, arith, length-take, take_all, leb-false, leb-true}
use borrow.Author.Tests.{lt-leb}
use Rattle.octets.specs.Text.{Text}
use Rattle.csm.specs.Message.{Body, rsi, ksm, rsm, esm, option, Reading, read, class_of as class_in}
use Rattle.fields.specs.Seen.{class_of}
use Rattle.reader.specs.declared.Message.{Message}
use Rattle.reader.specs.declared.Message.TheVariants as message
use Rattle.fields.specs.declared.Class.{Class}
use Rattle.fields.specs.declared.Class.TheVariants as class
use Rattle.reader.specs.Seen.{message_seen, seen}
use Rattle.lister.specs.Listing.{listed_class, row_of, HeldIsEnough}

-- the class of what the reader shows
abbrev pub message_class : Message → Class
message_class (message.Rsi m) = class.Rsi
message_class (message.Ksm m) = class.Ksm
message_class (message.Rsm m) = class.Rsm
message_class (message.Esm m) = class.Esm
message_class (message.Option m) = m.class

by_body : (v o : Text) (b : Body)
    → message_class (message_seen (record { rcv = v; org = o; body = b })) ≡ class_of (class_in b)
by_body v o (rsi r) = refl
by_body v o (ksm r) = refl
by_body v o (rsm r) = refl
by_body v o (esm r) = refl
by_body v o (option c w) = refl

pub listed : (o : Option Reading) → option_map message_class (seen o) ≡ listed_class o
unfolding seen
listed None = refl
listed (Some q) = ap Some (by_body q.rcv q.org q.body)

-- ---- a line of more than 513 bytes is held in part

and_false : (b : Bool) → b && false ≡ false
and_false true = refl
and_false false = refl

long_is_none : (t : Text) → 512 < length t → read t ≡ None
unfolding read
long_is_none t h = rw (lt-leb (length t) 512 h, and_false (leb 1 (length t)))

pub held_is_enough : HeldIsEnough
unfolding row_of
held_is_enough line = go (leb (length line) 513) refl
  where
    go : (b : Bool) → leb (length line) 513 ≡ b → row_of (take 513 line) ≡ row_of line
    go true e = ap row_of (take_all 513 line (leb-true (length line) 513 e))
    go false e =
        let h : 513 < length line = leb-false (length line) 513 e in
        let n : length (take 513 line) ≡ 513 = simp length-take (omega arith) in
        let a : read (take 513 line) ≡ None = long_is_none (take 513 line) (omega arith) in
        let b : read line ≡ None = long_is_none line (omega arith) in
        rw (a, b, n, lt-leb (length line) 512 (omega arith))
