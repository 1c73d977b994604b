-- Two hosts on a bad line, each keeping one image: the words of the third demand, and all that it rests on.
use Rattle.std.specs.Prelude.{◌≡◌, ◌≢◌, List, [], ◌++◌, ℕ, ◌+◌, eqb, Some}
use Rattle.octets.specs.Text.{Text}
use Rattle.keying.specs.declared.Top.{Top}
use Rattle.csm.specs.Message.{Reading, Ksm, ksm, read}
use Rattle.partner.specs.declared.Sending.{Sending}
use Rattle.partner.specs.declared.Entry.{Entry}
use Rattle.partner.specs.Entry.{confirmed}
use Rattle.partner.specs.Table.{Table}
use Rattle.image.specs.Image.{decode}
use Rattle.calls.specs.declared.Request.{Request}
use Rattle.calls.specs.Words.{in_case◌then◌else◌}
use Rattle.calls.specs.Receive.{brought}
use Rattle.calls.specs.Results.{Keeps}
use Rattle.card.specs.Whole.{top_in}
use Rattle.line.specs.Line.{◌∈◌, count_from, a_to_b}
use Rattle.line.specs.Line as line
use Rattle.demands.specs.Face.{Call, receive, build_ksm, build_rsi, ask, give_up, load, remove, leaves, kept}
use Rattle.demands.specs.Face.{sent}
use Rattle.demands.specs.Terms.{Bytes, OfBytes, entry_stored}

-- both images; the texts that each card has written; the counts of the key messages from A that B accepted; the newest
-- first
pub record Hosts : Type 0 where
  pub a : Text
  pub b : Text
  pub from_a : List Text
  pub from_b : List Text
  pub accepted : List ℕ

-- the count of a key message from that partner that the call accepted
unfoldable pub counted : Text → Call → ℕ → List ℕ
counted id (receive text) answer = in_case eqb answer 0 then count_from id (read text) else []
counted id (build_ksm partner request) answer = []
counted id (build_rsi partner service) answer = []
counted id (ask partner) answer = []
counted id (give_up partner) answer = []
counted id (load partner name key) answer = []
counted id (remove partner) answer = []

-- a call of A's in a buffer: it is lent the image that A's host keeps, and what it leaves is kept
abbrev pub at_a : Hosts → Text → Call → Hosts
at_a h buffer c = record {
  a = kept c (leaves h.a buffer c);
  b = h.b;
  from_a = sent c (leaves h.a buffer c) ++ h.from_a;
  from_b = h.from_b;
  accepted = h.accepted;
}

-- a call of B's, to which A has the identity a
abbrev pub at_b : Text → Hosts → Text → Call → Hosts
at_b a h buffer c = record {
  a = h.a;
  b = kept c (leaves h.b buffer c);
  from_a = h.from_a;
  from_b = sent c (leaves h.b buffer c) ++ h.from_b;
  accepted = counted a c (leaves h.b buffer c).answer ++ h.accepted;
}

-- the two are loaded for each other with one key or pair under one name
module _ (name : Text) (top : Top) where
  -- what is asked of a call that is answered so; `other` is the other card, `wrote` what that card has written
  unfoldable pub Allowed : Text → List Text → Call → ℕ → Type 0
  -- a message naming the other card as originator was written by it
  Allowed other wrote (receive text) answer = (r : Reading) → read text ≡ Some r → r.org ≡ other → text ∈ wrote
  Allowed other wrote (build_ksm partner request) answer = Unit {0}
  Allowed other wrote (build_rsi partner service) answer = Unit {0}
  Allowed other wrote (ask partner) answer = Unit {0}
  Allowed other wrote (give_up partner) answer = Unit {0}
  -- a load of the other card is refused, or has that key under that name
  Allowed other wrote (load partner key_name key) answer =
      answer ≡ 0 → partner ≡ other → (key_name ≡ name) × (top_in key ≡ Some top)
  -- a remove does not find the other card
  Allowed other wrote (remove partner) answer = answer ≡ 0 → partner ≢ other

  -- an image of a card that has this identity, and for the other no entry yet or the one that loading makes
  pub record Fresh (own other image : Text) : Type 0 where
    pub bytes : Bytes image
    pub table : Table
    pub legal : decode image ≡ Some table
    pub fresh : line.Fresh name top own other table

-- A is under the identity a, B under b
module _ (a b name : Text) (top : Top) where
  -- what calls at either end lead to, in any buffer: a host lends no older image, none that was altered, none started
  -- anew
  pub data Reach (h₀ : Hosts) : Hosts → Type 0 where
    begin : Reach h₀ h₀
    step_a : {h : Hosts} → Reach h₀ h → (buffer : Text) (c : Call) → OfBytes c
        → Allowed name top b h.from_b c (leaves h.a buffer c).answer → Reach h₀ (at_a h buffer c)
    step_b : {h : Hosts} → Reach h₀ h → (buffer : Text) (c : Call) → OfBytes c
        → Allowed name top a h.from_a c (leaves h.b buffer c).answer → Reach h₀ (at_b a h buffer c)

  -- two cards afresh for each other, whatever else their images hold, and nothing written since
  pub record Afresh (h : Hosts) : Type 0 where
    pub card_a : Fresh name top a b h.a
    pub card_b : Fresh name top b a h.b
    pub a_silent : h.from_a ≡ []
    pub b_silent : h.from_b ≡ []
    pub none_accepted : h.accepted ≡ []

  -- no two of A's key messages to B call for answers with equal MACs
  abbrev pub Distinct : Hosts → Type 0
  Distinct h = line.Distinct a b name top h.from_a

  -- B's image holds the very keys of A's sending unit, with their names, under the count of the key message that carried
  -- them
  pub record Agreed (h : Hosts) (ours : Sending) : Type 0 where
    pub text : Text
    pub message : Ksm
    pub sent_by_a : text ∈ h.from_a
    pub reading : read text ≡ Some (a_to_b a b name top (ksm message))
    pub carried : brought b (line.entry_for name top a) message ≡ ours.outgoing
    pub for_a : Entry
    pub held : entry_stored h.b a ≡ Some for_a
    pub in_step : line.InStep ours for_a.receiving message
    pub counted_by_b : message.ctp ∈ h.accepted

  -- both cards have just been loaded for each other
  pub record Loaded (h : Hosts) : Type 0 where
    pub afresh : Afresh h
    pub for_b : entry_stored h.a b ≡ Some (line.entry_for name top b)
    pub for_a : entry_stored h.b a ≡ Some (line.entry_for name top a)

  -- a run that ends with A's keys to B, those of a request, confirmed
  pub record Confirms (h₀ : Hosts) (q : Request) : Type 0 where
    pub later : Hosts
    pub run : Reach h₀ later
    pub distinct : Distinct later
    pub for_b : Entry
    pub held : entry_stored later.a b ≡ Some for_b
    pub phase : for_b.sending.phase ≡ confirmed
    pub keys : Keeps q for_b.sending.outgoing
