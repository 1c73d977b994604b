-- What a text is read as, from its first bytes, its class, its names and its body.
use Rattle.std.specs.Prelude.{Option, None, Some, option_map}
use mathlib.Core.Path.{◌≡◌, refl, ap, ◌∙◌}
use mathlib.Core.Bool.{Bool, true, false, cond, and-false}
use mathlib.Core.List.{[], ◌∷◌}
use Prim.Native.Nat.{ℕ, ◌≤◌, ◌<◌}
use native.Mathlib.Omega.{arith}
use lib.Dec.{leb}
use lib.ListN.{length, drop}
use borrow.Author.Tests.{lt-leb}
use Rattle.octets.specs.Text.{Text, ascii, starts}
use Rattle.octets.proofs.Comparing.{starts_fits}
use Rattle.csm.specs.Format.{bind, at_end}
use Rattle.csm.specs.Fields.{MCL, RCV, ORG, field}
use Rattle.csm.specs.Fields.{RSI, KSM, RSM, ESM, DSM, ERS, RFS, RTR}
use Rattle.csm.specs.Fields as csm
use Rattle.csm.specs.Message.{Row, one, Values, fields, head_row, head, Body, Reading, class_of as class_in, read_body}
use Rattle.csm.specs.Message.{with_body, fits, read}
use Rattle.csm.proofs.TextLaws.{some_inj, true_within}
use Rattle.csm.proofs.FieldLaws.{class_size}
use Rattle.fields.specs.Seen.{taken, class_of}
use Rattle.reader.specs.Seen.{next_at, shown_at, body_seen, seen}
use Rattle.reader.specs.declared.Head.{Head}
use Rattle.reader.specs.Stages.{taken_at, names_at, class_named, body}
use Rattle.reader.proofs.RowLaws.{next_read}

-- ---- the head

-- behind every class RCV starts at 12
class_end : (c : csm.Class) → next_at MCL 4 (Some c) ≡ 12
class_end c = omega (arith, class_size c)

-- what follows it
abbrev names_row : Row
names_row = one RCV ∷ one ORG ∷ []

-- the class of a name is that name
class_back : (c : csm.Class) → class_named (class_of c) ≡ c
class_back RSI = refl
class_back KSM = refl
class_back RSM = refl
class_back ESM = refl
class_back DSM = refl
class_back ERS = refl
class_back RFS = refl
class_back RTR = refl

-- ---- the whole text

either_none : (b : Bool) → ◌≡◌ {A = Option Reading} (cond b None None) None
either_none true = refl
either_none false = refl

read_none : (s : Text) → head.read s ≡ None → seen (read s) ≡ None
unfolding read seen
read_none s e = rw e (ap seen (either_none (fits s)))

head_after : (s : Text) → starts (ascii "CSM(") s ≡ true → head.read s ≡ (fields head_row []).read (drop 4 s)
head_after s e = rw e

-- the names at a place, and what follows them
abbrev names_of : ℕ → Text → Text → Head × ℕ
names_of at rcv org =
    let n = next_at RCV at (Some rcv) in
    (record { rcv = shown_at RCV at rcv; org = shown_at ORG n org }, next_at ORG n (Some org))

-- what is seen of a reading, by its names at 12
seen_at_12 : (rcv org : Text) (b : Body) → let n = names_of 12 rcv org in
    seen (Some (record { rcv = rcv; org = org; body = b })) ≡ Some (body_seen n.0 n.1 b)
unfolding seen
seen_at_12 rcv org b =
    ap (λ (i : ℕ). let n = names_of i rcv org in Some (body_seen n.0 n.1 b))
    (class_end (class_in b))

seen_body : (c : csm.Class) (rcv org : Text) (o : Option (Body × Text)) → let n = names_of 12 rcv org in
    seen (bind (bind o (λ q. Some (with_body (c, (rcv, (org, tt))) q.0, q.1))) at_end)
    ≡ option_map (body_seen n.0 n.1) (bind o at_end)
unfolding seen
seen_body c rcv org None = refl
seen_body c rcv org (Some (b, [])) = seen_at_12 rcv org b
seen_body c rcv org (Some (b, x ∷ t)) = refl

-- ---- RCV and ORG

-- what is read of both, from what is read of each
abbrev both_names : Text → ℕ → Option Text → Option Text → Option (Values names_row × Text)
both_names s at o p = bind o (λ rcv. bind p (λ org. Some ((rcv, (org, tt)), drop (names_of at rcv org).1 s)))

names_read : (s : Text) (at : ℕ)
    → (fields names_row []).read (drop at s)
    ≡ both_names s at (taken_at RCV s at) (taken_at ORG s (next_at RCV at (taken_at RCV s at)))
names_read s at = first ((field RCV).read (drop at s)) refl
  where
    second : (x : Text) (o : Option (Text × Text)) → let n = next_at RCV at (Some x) in
        (field ORG).read (drop n s) ≡ o → (field RCV).read (drop at s) ≡ Some (x, drop n s)
        → (fields names_row []).read (drop at s) ≡ both_names s at (Some x) (taken o)
    second x None e r = rw (r, e)
    second x (Some (y, t)) e r = rw (r, next_read ORG s (next_at RCV at (Some x)) y t e)

    first : (o : Option (Text × Text)) → (field RCV).read (drop at s) ≡ o
        → (fields names_row []).read (drop at s)
        ≡ both_names s at (taken o) (taken_at ORG s (next_at RCV at (taken o)))
    first None e = rw e
    first (Some (x, t)) e =
        second x ((field ORG).read (drop (next_at RCV at (Some x)) s)) refl (next_read RCV s at x t e)

module _ (s : Text) where
  pub read_long : 512 < length s → seen (read s) ≡ None
  unfolding read seen
  read_long l = rw (lt-leb (length s) 512 l, and-false (leb 1 (length s)))

  pub read_front : starts (ascii "CSM(") s ≡ false → seen (read s) ≡ None
  read_front e = read_none s (rw e)

  -- what is read once the class is
  class_read : (c : csm.Class) (t : Text) → (field MCL).read (drop 4 s) ≡ Some (c, t)
      → (field MCL).read (drop 4 s) ≡ Some (c, drop 12 s)
  class_read c t e = next_read MCL s 4 c t e ∙ ap (λ (n : ℕ). Some (c, drop n s)) (class_end c)

  module _ (front : starts (ascii "CSM(") s ≡ true) where
    -- names that were read, or a name that is missing
    abbrev named : Option Text → Option Text → Option (Head × ℕ)
    named o p =
        let n = next_at RCV 12 o in
        bind (option_map (shown_at RCV 12) o)
        (λ r. option_map (λ g. (record { rcv = r; org = g }, next_at ORG n p)) (option_map (shown_at ORG n) p))

    without : (o p : Option Text) → (fields names_row []).read (drop 12 s) ≡ both_names s 12 o p
        → named o p ≡ None → seen (read s) ≡ None
    without o p e b = read_none s (head_after s front ∙ go ((field MCL).read (drop 4 s)) refl)
      where
        no_names : (o p : Option Text) → named o p ≡ None → both_names s 12 o p ≡ None
        no_names None p b = refl
        no_names (Some x) None b = refl
        no_names (Some x) (Some y) b = cc

        go : (r : Option (csm.Class × Text)) → (field MCL).read (drop 4 s) ≡ r
            → (fields head_row []).read (drop 4 s) ≡ None
        go None r = rw r
        go (Some (c, t)) r = rw (class_read c t r, e ∙ no_names o p b)

    pub read_nameless : names_at s 12 ≡ None → seen (read s) ≡ None
    unfolding names_at
    read_nameless b =
        without (taken_at RCV s 12) (taken_at ORG s (next_at RCV 12 (taken_at RCV s 12))) (names_read s 12) b

    with_names : length s ≤ 512 → (o p : Option Text) → (fields names_row []).read (drop 12 s) ≡ both_names s 12 o p
        → (n : Head × ℕ) → named o p ≡ Some n
        → seen (read s) ≡ bind (option_map class_of (taken_at MCL s 4)) (λ c. body c n.0 n.1 (drop n.1 s))
    unfolding read body
    with_names l None p e n b = cc
    with_names l (Some x) None e n b = cc
    with_names l (Some x) (Some y) e n b =
        go ((field MCL).read (drop 4 s)) refl
        ∙ ap (λ (n : Head × ℕ). bind (option_map class_of (taken_at MCL s 4)) (λ c. body c n.0 n.1 (drop n.1 s))) (some_inj b)
      where
        f : fits s ≡ true
        f = true_within 1 512 (length s) (omega (arith, starts_fits (ascii "CSM(") s front)) l

        go : (r : Option (csm.Class × Text)) → (field MCL).read (drop 4 s) ≡ r
            → let n = names_of 12 x y in
            seen (read s) ≡ bind (option_map class_of (taken r)) (λ c. body c n.0 n.1 (drop n.1 s))
        go None r = read_none s (head_after s front ∙ rw r)
        go (Some (c, t)) r =
            let n = names_of 12 x y in
            let u = drop n.1 s in
            let z : head.read s ≡ Some ((c, (x, (y, tt))), u) = head_after s front ∙ rw (class_read c t r, e) in
            rw (f, z, class_back c) (seen_body c x y (read_body c u))

    pub read_named : length s ≤ 512 → (n : Head × ℕ) → names_at s 12 ≡ Some n
        → seen (read s) ≡ bind (option_map class_of (taken_at MCL s 4)) (λ c. body c n.0 n.1 (drop n.1 s))
    unfolding names_at
    read_named l n b =
        with_names l (taken_at RCV s 12) (taken_at ORG s (next_at RCV 12 (taken_at RCV s 12))) (names_read s 12) n b
