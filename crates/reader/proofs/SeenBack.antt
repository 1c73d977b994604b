-- For callers: what an answer of `read` says of the text's reading.
use Rattle.std.specs.Prelude.{Option, None, Some}
use mathlib.Core.Path.{◌≡◌, refl, subst, sym, ap, ◌∙◌}
use Rattle.octets.specs.Text.{Text}
use Rattle.csm.specs.Fields as csm
use Rattle.csm.specs.Message.{Body, rsi, ksm, rsm, esm, option, Reading, read}
use Rattle.csm.specs.Message as csm_message
use Rattle.reader.specs.Seen.{head_seen, body_place, rsi_seen, ksm_seen, rsm_seen, esm_seen, option_seen, body_seen}
use Rattle.reader.specs.Seen.{message_seen, seen, head_in}
use Rattle.reader.specs.declared.Head.{Head}
use Rattle.reader.specs.declared.Rsi.{Rsi}
use Rattle.reader.specs.declared.Ksm.{Ksm}
use Rattle.reader.specs.declared.Rsm.{Rsm}
use Rattle.reader.specs.declared.Esm.{Esm}
use Rattle.reader.specs.declared.Rest.{Rest}
use Rattle.reader.specs.declared.Message.{Message}
use Rattle.reader.specs.declared.Message.TheVariants as message

-- the text is read as q, whose body is f a, and of it the code has m
pub record ReadAs {A M : Type 0} (f : A → Body) (of : Reading → A → M) (t : Text) (m : M) : Type 0 where
  pub reading : Reading
  pub value : A
  pub is : read t ≡ Some reading
  pub body : reading.body ≡ f value
  pub seen : of reading value ≡ m

-- what each class's answer is made of
abbrev pub rsi_of : Reading → csm_message.Rsi → Rsi
rsi_of q a = rsi_seen (head_seen q) (body_place q) a

abbrev pub ksm_of : Reading → csm_message.Ksm → Ksm
ksm_of q a = ksm_seen (head_seen q) (body_place q) a

abbrev pub rsm_of : Reading → csm_message.Rsm → Rsm
rsm_of q a = rsm_seen (head_seen q) (body_place q) a

abbrev pub esm_of : Reading → csm_message.Esm → Esm
esm_of q a = esm_seen (head_seen q) (body_place q) a

-- an option's class and rest
abbrev pub option_as : csm.Class × Text → Body
option_as a = option a.0 a.1

abbrev pub option_of : Reading → csm.Class × Text → Rest
option_of q a = option_seen (head_seen q) (body_place q) a.0 a.1

-- what an answer says of the text
abbrev Said : Text → Option Message → Type 0
Said t None = read t ≡ None
Said t (Some (message.Rsi m)) = ReadAs rsi rsi_of t m
Said t (Some (message.Ksm m)) = ReadAs ksm ksm_of t m
Said t (Some (message.Rsm m)) = ReadAs rsm rsm_of t m
Said t (Some (message.Esm m)) = ReadAs esm esm_of t m
Said t (Some (message.Option m)) = ReadAs option_as option_of t m

said : (t : Text) (m : Option Message) → seen (read t) ≡ m → Said t m
unfolding seen
said t m e = subst (Said t) e (go (read t) refl)
  where
    by : (q : Reading) → read t ≡ Some q → (b : Body) → q.body ≡ b → Said t (Some (body_seen (head_seen q) (body_place q) b))
    by q i (rsi r) k = record { reading = q; value = r; is = i; body = k; seen = refl }
    by q i (ksm r) k = record { reading = q; value = r; is = i; body = k; seen = refl }
    by q i (rsm r) k = record { reading = q; value = r; is = i; body = k; seen = refl }
    by q i (esm r) k = record { reading = q; value = r; is = i; body = k; seen = refl }
    by q i (option c w) k = record { reading = q; value = (c, w); is = i; body = k; seen = refl }

    go : (o : Option Reading) → read t ≡ o → Said t (seen o)
    go None i = i
    go (Some q) i = by q i q.body refl

pub none_back : (t : Text) → seen (read t) ≡ None → read t ≡ None
none_back t = said t None

pub rsi_back : (t : Text) (m : Rsi) → seen (read t) ≡ Some (message.Rsi m) → ReadAs rsi rsi_of t m
rsi_back t m = said t (Some (message.Rsi m))

pub ksm_back : (t : Text) (m : Ksm) → seen (read t) ≡ Some (message.Ksm m) → ReadAs ksm ksm_of t m
ksm_back t m = said t (Some (message.Ksm m))

pub rsm_back : (t : Text) (m : Rsm) → seen (read t) ≡ Some (message.Rsm m) → ReadAs rsm rsm_of t m
rsm_back t m = said t (Some (message.Rsm m))

pub esm_back : (t : Text) (m : Esm) → seen (read t) ≡ Some (message.Esm m) → ReadAs esm esm_of t m
esm_back t m = said t (Some (message.Esm m))

pub option_back : (t : Text) (m : Rest) → seen (read t) ≡ Some (message.Option m) → ReadAs option_as option_of t m
option_back t m = said t (Some (message.Option m))

-- any answer's head is its reading's
pub record HeadAs (t : Text) (h : Head) : Type 0 where
  pub reading : Reading
  pub is : read t ≡ Some reading
  pub head : head_seen reading ≡ h

pub head_back : (t : Text) (m : Message) → seen (read t) ≡ Some m → HeadAs t (head_in m)
unfolding seen
head_back t m e = go (read t) refl e
  where
    by : (q : Reading) (b : Body) → head_in (body_seen (head_seen q) (body_place q) b) ≡ head_seen q
    by q (rsi r) = refl
    by q (ksm r) = refl
    by q (rsm r) = refl
    by q (esm r) = refl
    by q (option c w) = refl

    go : (o : Option Reading) → read t ≡ o → seen o ≡ Some m → HeadAs t (head_in m)
    go None i k = cc
    go (Some q) i k =
        let j : message_seen q ≡ m = cc in
        record { reading = q; is = i; head = sym (by q q.body) ∙ ap head_in j }
