-- The bytes of a request, as they are lent. Numbers have the high byte first.
use Rattle.std.specs.Prelude.{refl, cond, ℕ, eqb, length}
use Rattle.octets.specs.Text.{Text}
use Rattle.octets.specs.Number.{copies}
use Rattle.octets.specs.Codec.{Codec, numeral, plain, ◌followed_by◌, as_record, width, value_at}
use Rattle.partner.specs.Entry.{zero_name}
use Rattle.partner.specs.Record.{name_layout}
use Rattle.calls.specs.declared.Date.{Date}
use Rattle.calls.specs.declared.KeyRequest.{KeyRequest}
use Rattle.calls.specs.declared.Request.{Request}

-- a request of no keys, zero throughout
abbrev pub no_key : KeyRequest
no_key = record { key = 0; flags = 0; name = zero_name }

abbrev pub no_request : Request
no_request = record {
  count = 0;
  first = no_key;
  second = no_key;
  kind = 0;
  iv = 0;
  dated = 0;
  date = record { digits = copies 12 0 };
  notarized = 0;
}

-- a date: 12
abbrev pub date_layout : Codec Date
date_layout = as_record {B = Date} (plain 12) (λ t. record { digits = t }) (λ d. d.digits) (λ d. refl) (λ t. refl)

-- a key: key 8, flags 1, name 16
abbrev pub key_request_layout : Codec KeyRequest
key_request_layout =
    as_record {B = KeyRequest} (numeral 8 followed_by numeral 1 followed_by name_layout)
    (λ v. record { key = v.0; flags = v.1.0; name = v.1.1 })
    (λ k. (k.key, (k.flags, k.name)))
    (λ k. refl)
    (λ v. refl)

-- IV's kind 1, IV 8; date flag 1, date 12; notarized 1
abbrev pub options_layout : Codec (ℕ × (ℕ × (ℕ × (Date × ℕ))))
options_layout = numeral 1 followed_by numeral 8 followed_by numeral 1 followed_by date_layout followed_by numeral 1

-- number of keys 1, twice such a key, then these
abbrev pub request_layout : Codec Request
request_layout =
    as_record {B = Request}
    (numeral 1 followed_by key_request_layout followed_by key_request_layout followed_by options_layout)
    (λ v. record {
      count = v.0;
      first = v.1.0;
      second = v.1.1.0;
      kind = v.1.1.1.0;
      iv = v.1.1.1.1.0;
      dated = v.1.1.1.1.1.0;
      date = v.1.1.1.1.1.1.0;
      notarized = v.1.1.1.1.1.1.1;
    })
    (λ r. (r.count, (r.first, (r.second, (r.kind, (r.iv, (r.dated, (r.date, r.notarized))))))))
    (λ r. refl)
    (λ v. refl)

-- how many bytes it has
abbrev pub request_size : ℕ
request_size = width request_layout

unfoldable pub whole_in : Text → Request
whole_in s = value_at request_layout 0 s

-- the request that the bytes are; another length is 12: a request of no keys
unfoldable pub request_in : Text → Request
request_in s = cond (eqb (length s) request_size) (whole_in s) no_request
