-- What the private stages of reading answer, from what the rows of csm read at a place; the contract of `read` needs none
-- of it.
use Rattle.std.specs.Prelude.{Bool, cond, not, ◌&&◌, ℕ, length, drop, Option, option_map}
use Prim.Native.Char.{code}
use Rattle.octets.specs.Text.{Text, all}
use Rattle.csm.specs.Format.{bind, whole, at_end, upto, plain}
use Rattle.csm.specs.Fields.{RCV, ORG, Contents, tag, has_P, field}
use Rattle.csm.specs.Fields.{RSI, KSM, RSM, ESM, DSM, ERS, RFS, RTR}
use Rattle.csm.specs.Fields as csm
use Rattle.csm.specs.Message.{Body, rsi, ksm, rsm, esm}
use Rattle.csm.specs.Message.{rsi_form, ksm_form, rsm_form, esm_form, text_char, ends_blank, read_body}
use Rattle.fields.specs.Seen.{taken, inner, field_at, Shown, shown}
use Rattle.reader.specs.Seen.{body_seen}
use Rattle.fields.specs.declared.Class.{Class}
use Rattle.fields.specs.declared.Class.TheVariants as class
use Rattle.fields.specs.declared.Field.{Field}
use Rattle.reader.specs.declared.Head.{Head}
use Rattle.reader.specs.declared.Message.{Message}
use Rattle.reader.specs.declared.Message.TheVariants as message

-- ---- a field at a place

-- what is read of it there, and as what it is shown
abbrev pub taken_at : (f : csm.Field) → Text → ℕ → Option (Contents f)
taken_at f s at = taken ((field f).read (drop at s))

abbrev pub seen_at : (f : csm.Field) → Text → ℕ → Field (Shown f)
seen_at f s at = field_at (shown f) (inner f) at (tag f) (taken_at f s at)

-- CTP and CTR, both exactly when ERF has a P
unfoldable pub agree : ℕ → Bool → Bool → Bool
agree erf ctp ctr = cond (has_P erf) (ctp && ctr) (not ctp && not ctr)

-- ---- each class after its head, which ends at `at`

-- what was read, under its case
abbrev pub seen_as : {A : Type 0} → Head → ℕ → (A → Body) → Option A → Option Message
seen_as h at f o = option_map (λ a. body_seen h at (f a)) o

unfoldable pub rsi_body : Head → ℕ → Text → Option Message
rsi_body h at s = seen_as h at rsi (whole rsi_form s)

unfoldable pub ksm_body : Head → ℕ → Text → Option Message
ksm_body h at s = seen_as h at ksm (whole ksm_form s)

unfoldable pub rsm_body : Head → ℕ → Text → Option Message
rsm_body h at s = seen_as h at rsm (whole rsm_form s)

unfoldable pub esm_body : Head → ℕ → Text → Option Message
esm_body h at s = seen_as h at esm (whole esm_form s)

-- ---- options

-- characters of a message without parentheses, and a blank at the end, or none
unfoldable pub any_rest : Text → Bool
any_rest w = all text_char w && ends_blank w

-- a rest and the closing parenthesis
abbrev pub rest_seen : Class → Head → ℕ → Option Text → Option Message
rest_seen c h at o =
    option_map (λ w. message.Option (record { head = h; class = c; rest = record { at = at; length = length w } })) o

unfoldable pub rest_body : Class → Head → ℕ → Text → Option Message
rest_body c h at s = rest_seen c h at (whole (upto (code ")") (plain any_rest)) s)

-- ---- the message: names, then the body of the class

-- RCV and ORG, the one behind the other, and what follows them
unfoldable pub names_at : Text → ℕ → Option (Head × ℕ)
names_at s at =
    let rcv = seen_at RCV s at in
    let org = seen_at ORG s rcv.next in
    bind rcv.contents (λ r. option_map (λ o. (record { rcv = r; org = o }, org.next)) org.contents)

-- a body to the end of the text
abbrev pub whole_body : csm.Class → Text → Option Body
whole_body c s = bind (read_body c s) at_end

-- the class of the paper
abbrev pub class_named : Class → csm.Class
class_named class.Rsi = RSI
class_named class.Ksm = KSM
class_named class.Rsm = RSM
class_named class.Esm = ESM
class_named class.Dsm = DSM
class_named class.Ers = ERS
class_named class.Rfs = RFS
class_named class.Rtr = RTR

-- what follows the head, by its class
unfoldable pub body : Class → Head → ℕ → Text → Option Message
body c h at s = option_map (body_seen h at) (whole_body (class_named c) s)
