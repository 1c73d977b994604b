-- Laws of the record, from its layout: its length, there and back, and what putting leaves.
use mathlib.Core.Path.{◌≡◌, sym, ap, ◌∙◌}
use mathlib.Core.Bool.{true}
use mathlib.Core.List.{◌++◌}
use Prim.Native.Nat.{ℕ, ◌≤◌, ◌<◌}
use native.Mathlib.Omega.{arith}
use lib.ListN.{length, drop, length-append}
use borrow.Author.Tests.{lt-ltb, le-ltb}
use Rattle.octets.specs.Text.{Text}
use Rattle.octets.specs.Part.{all_octets}
use Rattle.octets.specs.Codec.{Fits}
use Rattle.octets.specs.Wrote.{Wrote}
use Rattle.octets.proofs.Writing.{wrote_fits}
use Rattle.octets.proofs.Codecs as codec
use Rattle.partner.specs.declared.DataKey.{DataKey}
use Rattle.partner.specs.declared.KeySet.{KeySet}
use Rattle.partner.specs.declared.Entry.{Entry}
use Rattle.partner.specs.Record.{place_layout, set_layout, entry_layout, entry_size, entry_bytes, entry_in, put_entry}
use Rattle.partner.specs.Held.{HeldKey, HeldSet, Held}

-- ---- what fits the layout is held, and the other way round

key_fits : (k : DataKey) → HeldKey k → Fits place_layout k
key_fits k h = (h.key, h.name)

fits_key : (k : DataKey) → Fits place_layout k → HeldKey k
fits_key k f = record { key = f.0; name = f.1 }

set_fits : (set : KeySet) → HeldSet set → Fits set_layout set
set_fits set h = (h.count, (key_fits set.first h.first, key_fits set.second h.second))

fits_set : (set : KeySet) → Fits set_layout set → HeldSet set
fits_set set f =
    record { count = f.0; first = fits_key set.first f.1.0; second = fits_key set.second f.1.1 }

held_fits : (e : Entry) → Held e → Fits entry_layout e
held_fits e h =
    let t = h.top in
    let s = h.sending in
    let r = h.receiving in (
      h.identity,
      (
        (t.name, (t.form, (t.left, t.right))),
        (
          (s.next, (r.expected, s.phase)),
          (set_fits e.sending.outgoing s.outgoing, set_fits e.receiving.incoming r.incoming),
        ),
      ),
    )

fits_held : (e : Entry) → Fits entry_layout e → Held e
fits_held e (i, ((n, (f, (l, r))), ((x, (y, p)), (o, c)))) = record {
  identity = i;
  top = record { name = n; form = f; left = l; right = r };
  sending = record { next = x; phase = p; outgoing = fits_set e.sending.outgoing o };
  receiving = record { expected = y; incoming = fits_set e.receiving.incoming c };
}

-- ---- length, there and back

pub length_entry : (e : Entry) → Held e → length (entry_bytes e) ≡ entry_size
unfolding entry_bytes
length_entry e h = codec.length_written entry_layout e (held_fits e h)

-- for that it is enough that its six names have 16 bytes
pub names_size : (e : Entry) → length e.identity.bytes ≡ 16 → length e.top.name.bytes ≡ 16
    → length e.sending.outgoing.first.name.bytes ≡ 16 → length e.sending.outgoing.second.name.bytes ≡ 16
    → length e.receiving.incoming.first.name.bytes ≡ 16 → length e.receiving.incoming.second.name.bytes ≡ 16
    → length (entry_bytes e) ≡ entry_size
unfolding entry_bytes
names_size e i n a b c d = simp (length-append, i, n, a, b, c, d)

pub octets_entry : (e : Entry) → Held e → all_octets (entry_bytes e) ≡ true
unfolding entry_bytes
octets_entry e h = codec.octets_written entry_layout e (held_fits e h)

pub entry_back : (e : Entry) → Held e → entry_in (entry_bytes e) ≡ e
unfolding entry_in entry_bytes
entry_back e h = codec.read_written entry_layout e (held_fits e h)

pub entry_held : (s : Text) → all_octets s ≡ true → Held (entry_in s)
unfolding entry_in
entry_held s h = fits_held (entry_in s) (codec.fits_read entry_layout 0 s h)

pub read_written : (s : Text) → length s ≡ entry_size → all_octets s ≡ true → entry_bytes (entry_in s) ≡ s
unfolding entry_in entry_bytes
read_written s l h = codec.written_read entry_layout s l h

-- ---- putting

pub put_short : (e : Entry) (l : Text) → length l < entry_size → put_entry e l ≡ (l, 0)
unfolding put_entry
put_short e l h = rw (lt-ltb (length l) entry_size h)

pub put_room : (e : Entry) {l l' : Text} {n : ℕ} → length (entry_bytes e) ≡ entry_size → entry_size ≤ length l
    → Wrote (entry_bytes e) l l' n → put_entry e l ≡ (l', n)
unfolding put_entry
put_room e {l} {l'} {n} s h w =
    let f = wrote_fits w (omega arith) in
    let t : l' ≡ entry_bytes e ++ drop entry_size l = f.0 ∙ ap (λ (m : ℕ). entry_bytes e ++ drop m l) s in
    let k : n ≡ entry_size = f.1 ∙ s in
    rw (le-ltb (length l) entry_size h) (λ j. (sym t j, sym k j))
