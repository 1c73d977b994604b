-- What `read` answers: of every reading the class, where its fields stand, and its numbers.
use Rattle.std.specs.Prelude.{[], ◌∷◌, ℕ, ◌-◌, length, Option, Some, option_map}
use Rattle.octets.specs.Text.{Text}
use Rattle.octets.specs.Part.{found}
use Rattle.octets.specs.declared.Span.{Span}
use Rattle.csm.specs.Fields.{Field, Contents, tag}
use Rattle.csm.specs.Fields as csm
use Rattle.csm.specs.Message as csm_message
use Rattle.csm.specs.Message.{Row, one, opt, Values, head_row, rsi_row, ksm_row, rsm_row, esm_row}
use Rattle.csm.specs.Message.{rsi_values, ksm_values, rsm_values, esm_values, head_of}
use Rattle.csm.specs.Message.{Body, rsi, ksm, rsm, esm, option, Reading}
use Rattle.fields.specs.Seen.{inner, span_of, next_of, class_of, Shown, shown}
use Rattle.reader.specs.declared.Head.{Head}
use Rattle.reader.specs.declared.Rsi.{Rsi}
use Rattle.reader.specs.declared.Ksm.{Ksm}
use Rattle.reader.specs.declared.Rsm.{Rsm}
use Rattle.reader.specs.declared.Esm.{Esm}
use Rattle.reader.specs.declared.Rest.{Rest}
use Rattle.reader.specs.declared.Message.{Message}
use Rattle.reader.specs.declared.Message.TheVariants as message

-- ---- what the fields of a row are shown as

-- the contents of a field that starts at `at`; and what follows it
abbrev pub shown_at : (f : Field) → ℕ → Contents f → Shown f
shown_at f at a = shown f (span_of (inner f) at (tag f) a) a

abbrev pub next_at : (f : Field) → ℕ → Option (Contents f) → ℕ
next_at f at o = next_of (inner f) at (tag f) o

-- each field of a row
abbrev pub ShownRow : Row → Type 0
ShownRow [] = Unit {0}
ShownRow (one f ∷ rs) = Shown f × ShownRow rs
ShownRow (opt f ∷ rs) = Option (Shown f) × ShownRow rs

-- of a row that starts at `at`
abbrev pub shown_row : (rs : Row) → ℕ → Values rs → ShownRow rs
shown_row [] at u = tt
shown_row (one f ∷ rs) at (a, v) = (shown_at f at a, shown_row rs (next_at f at (Some a)) v)
shown_row (opt f ∷ rs) at (o, v) = (option_map (shown_at f at) o, shown_row rs (next_at f at o) v)

-- where the row ends
abbrev pub row_end : (rs : Row) → ℕ → Values rs → ℕ
row_end [] at u = at
row_end (one f ∷ rs) at (a, v) = row_end rs (next_at f at (Some a)) v
row_end (opt f ∷ rs) at (o, v) = row_end rs (next_at f at o) v

-- ---- the head, behind `CSM(`

abbrev pub head_with : ShownRow head_row → Head
head_with (mcl, (rcv, (org, u))) = record { rcv = rcv; org = org }

abbrev pub head_seen : Reading → Head
head_seen q = head_with (shown_row head_row 4 (head_of q))

-- where what follows it starts
abbrev pub body_place : Reading → ℕ
body_place q = row_end head_row 4 (head_of q)

-- ---- each class, whose row starts at `at`

-- an RSI: the place of its service, SVR, EDC
abbrev pub rsi_with : Head → ShownRow rsi_row → Rsi
rsi_with h (svr, (edc, u)) = record { head = h; service = svr.value; svr = svr.span; edc = edc }

abbrev pub rsi_seen : Head → ℕ → csm_message.Rsi → Rsi
rsi_seen h at r = rsi_with h (shown_row rsi_row at (rsi_values r))

-- a KSM: whether NOS is there, its KDs, IV, EDK, its count and its MAC
abbrev pub ksm_with : Head → ShownRow ksm_row → Ksm
ksm_with h (nos, (first, (second, (iv, (edk, (ctp, (mac, u))))))) = record {
  head = h;
  nos = found nos;
  first = first;
  second = second;
  iv = iv;
  edk = edk;
  ctp = ctp;
  mac = mac;
}

abbrev pub ksm_seen : Head → ℕ → csm_message.Ksm → Ksm
ksm_seen h at r = ksm_with h (shown_row ksm_row at (ksm_values r))

-- an RSM: its MAC
abbrev pub rsm_with : Head → ShownRow rsm_row → Rsm
rsm_with h (mac, u) = record { head = h; mac = mac }

abbrev pub rsm_seen : Head → ℕ → csm_message.Rsm → Rsm
rsm_seen h at r = rsm_with h (shown_row rsm_row at (rsm_values r))

-- an ESM: its counts, its letters, EDC
abbrev pub esm_with : Head → ShownRow esm_row → Esm
esm_with h (ctp, (ctr, (erf, (edc, u)))) = record { head = h; ctp = ctp; ctr = ctr; erf = erf; edc = edc }

abbrev pub esm_seen : Head → ℕ → csm_message.Esm → Esm
esm_seen h at r = esm_with h (shown_row esm_row at (esm_values r))

-- an option: its class and its rest, all that follows the head
abbrev pub option_seen : Head → ℕ → csm.Class → Text → Rest
option_seen h at c w = record { head = h; class = class_of c; rest = record { at = at; length = length w } }

-- each class as its case
abbrev pub body_seen : Head → ℕ → Body → Message
body_seen h at (rsi r) = message.Rsi (rsi_seen h at r)
body_seen h at (ksm r) = message.Ksm (ksm_seen h at r)
body_seen h at (rsm r) = message.Rsm (rsm_seen h at r)
body_seen h at (esm r) = message.Esm (esm_seen h at r)
body_seen h at (option c w) = message.Option (option_seen h at c w)

abbrev pub message_seen : Reading → Message
message_seen q = body_seen (head_seen q) (body_place q) q.body

-- of a text's reading, if it has one
unfoldable pub seen : Option Reading → Option Message
seen o = option_map message_seen o

-- the head of what is shown
abbrev pub head_in : Message → Head
head_in (message.Rsi m) = m.head
head_in (message.Ksm m) = m.head
head_in (message.Rsm m) = m.head
head_in (message.Esm m) = m.head
head_in (message.Option m) = m.head

-- ---- what a MAC covers: from behind `CSM(` to `MAC/`, four bytes before its contents
abbrev pub covered_span : Span → Span
covered_span mac = record { at = 4; length = mac.at - 8 }
