-- An entry's record, as document 01, "Stored image", lists it: the body of kind 2. Numbers have the high byte first.
use Rattle.std.specs.Prelude.{refl, cond, ◌++◌, ℕ, ltb, length, drop}
use Rattle.octets.specs.Text.{Text}
use Rattle.octets.specs.Codec.{Codec, numeral, plain, ◌followed_by◌, as_record, width, written, value_at}
use Rattle.partner.specs.declared.Name.{Name}
use Rattle.partner.specs.declared.DataKey.{DataKey}
use Rattle.partner.specs.declared.KeySet.{KeySet}
use Rattle.partner.specs.declared.TopKey.{TopKey}
use Rattle.partner.specs.declared.Entry.{Entry}

-- ---- the layout

-- a name or an identity: 16
abbrev pub name_layout : Codec Name
name_layout = as_record {B = Name} (plain 16) (λ t. record { bytes = t }) (λ n. n.bytes) (λ n. refl) (λ t. refl)

-- a key place: key 8 and name 16
abbrev pub place_layout : Codec DataKey
place_layout =
    as_record {B = DataKey} (numeral 8 followed_by name_layout)
    (λ v. record { key = v.0; name = v.1 })
    (λ k. (k.key, k.name))
    (λ k. refl)
    (λ v. refl)

-- a key set is its number 1, then two key places
abbrev pub set_layout : Codec KeySet
set_layout =
    as_record {B = KeySet} (numeral 1 followed_by place_layout followed_by place_layout)
    (λ v. record { count = v.0; first = v.1.0; second = v.1.1 })
    (λ set. (set.count, (set.first, set.second)))
    (λ set. refl)
    (λ v. refl)

-- key name 16, key form 1, top key 16
abbrev pub top_layout : Codec TopKey
top_layout =
    as_record {B = TopKey} (name_layout followed_by numeral 1 followed_by numeral 8 followed_by numeral 8)
    (λ v. record { name = v.0; form = v.1.0; left = v.1.1.0; right = v.1.1.1 })
    (λ k. (k.name, (k.form, (k.left, k.right))))
    (λ k. refl)
    (λ v. refl)

-- next send 4, expected 4, phase 1
abbrev pub counts_layout : Codec (ℕ × (ℕ × ℕ))
counts_layout = numeral 4 followed_by numeral 4 followed_by numeral 1

-- identity 16; key name, form and top key; the counts; outgoing and incoming keys
abbrev pub entry_layout : Codec Entry
entry_layout =
    as_record {B = Entry}
    (name_layout followed_by top_layout followed_by counts_layout followed_by set_layout followed_by set_layout)
    (λ v. record {
      identity = v.0;
      top = v.1.0;
      sending = record { next = v.1.1.0.0; phase = v.1.1.0.1.1; outgoing = v.1.1.1.0 };
      receiving = record { expected = v.1.1.0.1.0; incoming = v.1.1.1.1 };
    })
    (λ e. (
      e.identity,
      (
        e.top,
        (
          (e.sending.next, (e.receiving.expected, e.sending.phase)),
          (e.sending.outgoing, e.receiving.incoming),
        ),
      ),
    ))
    (λ e. refl)
    (λ v. refl)

-- ---- the record

-- how many bytes it has
abbrev pub entry_size : ℕ
entry_size = width entry_layout

-- the record of an entry
unfoldable pub entry_bytes : Entry → Text
entry_bytes e = written entry_layout e

-- the entry that a record is; what is missing is read as zeros
unfoldable pub entry_in : Text → Entry
entry_in s = value_at entry_layout 0 s

-- a lent rest after the record is put to its front, and the number of bytes put: none where there is no room for it
unfoldable pub put_entry : Entry → Text → Text × ℕ
put_entry e rest =
    cond (ltb (length rest) entry_size) (rest, 0) (entry_bytes e ++ drop entry_size rest, entry_size)
