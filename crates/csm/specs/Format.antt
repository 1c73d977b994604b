-- How formats are put together: which values are legal, which text each has, and how a text is read.
-- Believe `legal` and `print`: what is claimed in Claims.antt leaves `read` no choice.
use Rattle.std.specs.Prelude.{Bool, true, cond, ◌&&◌, [], ◌∷◌, ◌++◌, ℕ, eqb, length, drop, Option, None, Some}
use Rattle.octets.specs.Text.{Text, same, starts}

-- the next step, if there is a value
abbrev pub bind : {A B : Type 0} → Option A → (A → Option B) → Option B
bind None f = None
bind (Some a) f = f a

-- what follows w at the front of s
abbrev pub after : Text → Text → Option Text
after w s = cond (starts w s) (Some (drop (length w) s)) None

-- what stands before the first x of a text, and what follows it
abbrev pub until : ℕ → Text → Option (Text × Text)
until x [] = None
until x (y ∷ s) = cond (eqb y x) (Some ([], s)) (bind (until x s) (λ p. Some (y ∷ p.0, p.1)))

-- a whole piece of text: it is read as the value guessed from it, if that is legal and has just this text;
-- so the guess needs no belief
pub record Word (A : Type 0) : Type 0 where
  pub legal : A → Bool
  pub text : A → Text
  pub guess : Text → A

-- the value of a piece
abbrev pub value : {A : Type 0} → Word A → Text → Option A
value c w = cond (c.legal (c.guess w) && same (c.text (c.guess w)) w) (Some (c.guess w)) None

-- a text that passes a test and stands for itself
abbrev pub plain : (Text → Bool) → Word Text
plain f = record { legal = f; text = λ w. w; guess = λ w. w }

-- the front of a text: the value that stands there, and what follows it
pub record Format (A : Type 0) : Type 0 where
  pub legal : A → Bool
  pub print : A → Text
  pub read : Text → Option (A × Text)

-- a piece that ends at the first x
abbrev pub upto : ℕ → {A : Type 0} → Word A → Format A
upto x c = record {
  legal = c.legal;
  print = λ a. c.text a ++ x ∷ [];
  read = λ s. bind (until x s) (λ p. bind (value c p.0) (λ a. Some (a, p.1)));
}

-- w alone
abbrev pub just : Text → Format (Unit {0})
just w = record { legal = λ u. true; print = λ u. w; read = λ s. bind (after w s) (λ t. Some (tt, t)) }

-- w, then c
abbrev pub pre : Text → {A : Type 0} → Format A → Format A
pre w c = record { legal = c.legal; print = λ a. w ++ c.print a; read = λ s. bind (after w s) c.read }

module _ {A : Type 0} where
  -- nothing is legal, and has no text
  abbrev pub maybe_legal : Format A → Option A → Bool
  maybe_legal c None = true
  maybe_legal c (Some a) = c.legal a

  abbrev pub maybe_print : Format A → Option A → Text
  maybe_print c None = []
  maybe_print c (Some a) = c.print a

module _ {A B : Type 0} where
  -- c, then d
  abbrev pub both : Format A → Format B → Format (A × B)
  both c d = record {
    legal = λ p. c.legal p.0 && d.legal p.1;
    print = λ p. c.print p.0 ++ d.print p.1;
    read = λ s. bind (c.read s) (λ p. bind (d.read p.1) (λ q. Some ((p.0, q.0), q.1)));
  }

  -- d after c, or after nothing
  abbrev pub maybe_read : Format B → Text → Option (A × Text) → Option ((Option A × B) × Text)
  maybe_read d s None = bind (d.read s) (λ q. Some ((None, q.0), q.1))
  maybe_read d s (Some p) = bind (d.read p.1) (λ q. Some ((Some p.0, q.0), q.1))

  -- c or nothing, then d
  abbrev pub maybe : Format A → Format B → Format (Option A × B)
  maybe c d = record {
    legal = λ p. maybe_legal c p.0 && d.legal p.1;
    print = λ p. maybe_print c p.0 ++ d.print p.1;
    read = λ s. maybe_read d s (c.read s);
  }

  -- c, its values under another form
  abbrev pub as_form : (A → B) → (B → A) → Format A → Format B
  as_form f g c = record {
    legal = λ b. c.legal (g b);
    print = λ b. c.print (g b);
    read = λ s. bind (c.read s) (λ p. Some (f p.0, p.1));
  }

module _ {A : Type 0} where
  -- c, of which a test is asked besides
  abbrev pub such_that : (A → Bool) → Format A → Format A
  such_that f c = record {
    legal = λ a. c.legal a && f a;
    print = c.print;
    read = λ s. bind (c.read s) (λ p. cond (f p.0) (Some p) None);
  }

  -- nothing follows
  abbrev pub at_end : A × Text → Option A
  at_end p = elim p.1 [ [] ↦ Some p.0 | x ∷ s ↦ None ]

  -- the whole of a text
  abbrev pub whole : Format A → Text → Option A
  whole c s = bind (c.read s) at_end
