-- Entries whose fields fit their types: names of 16 bytes, numbers of 8, 32 and 64 bits.
use Rattle.std.specs.Prelude.{◌^◌, ◌<◌}
use Rattle.octets.specs.Codec.{Octets}
use Rattle.partner.specs.declared.Name.{Name}
use Rattle.partner.specs.declared.DataKey.{DataKey}
use Rattle.partner.specs.declared.KeySet.{KeySet}
use Rattle.partner.specs.declared.TopKey.{TopKey}
use Rattle.partner.specs.declared.Sending.{Sending}
use Rattle.partner.specs.declared.Receiving.{Receiving}
use Rattle.partner.specs.declared.Entry.{Entry}

abbrev pub HeldName : Name → Type 0
HeldName n = Octets 16 n.bytes

pub record HeldKey (k : DataKey) : Type 0 where
  pub key : k.key < 2 ^ 64
  pub name : HeldName k.name

pub record HeldSet (set : KeySet) : Type 0 where
  pub count : set.count < 2 ^ 8
  pub first : HeldKey set.first
  pub second : HeldKey set.second

pub record HeldTop (k : TopKey) : Type 0 where
  pub name : HeldName k.name
  pub form : k.form < 2 ^ 8
  pub left : k.left < 2 ^ 64
  pub right : k.right < 2 ^ 64

pub record HeldSending (s : Sending) : Type 0 where
  pub next : s.next < 2 ^ 32
  pub phase : s.phase < 2 ^ 8
  pub outgoing : HeldSet s.outgoing

pub record HeldReceiving (r : Receiving) : Type 0 where
  pub expected : r.expected < 2 ^ 32
  pub incoming : HeldSet r.incoming

pub record Held (e : Entry) : Type 0 where
  pub identity : HeldName e.identity
  pub top : HeldTop e.top
  pub sending : HeldSending e.sending
  pub receiving : HeldReceiving e.receiving
