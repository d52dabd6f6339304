-- Each field of a value that the code holds lies within its type: what round trips ask of a message is had of every message.
use mathlib.Core.List.{List}
use Prim.Native.Nat.{◌<◌, ◌^◌}
use mir.Syntax.{w8, w16, w64}
use mir.Val.{Val, SFits}
use borrow.Author.Rules.{sfits_of}
use denote.Laws.{Is}
use denote.Struct.Declared.{row}
use denote.Struct.Laws.{owed}
use denote.Enum.Declared.{row as Enum-Row}
use denote.Enum.Laws.{owed as enum-owed}
use Rattle.wire_layout.specs.declared.message.Port.{Port}
use Rattle.wire_layout.specs.declared.message.Header.{Header}
use Rattle.wire_layout.specs.declared.message.Offer.{Offer}
use Rattle.wire_layout.specs.declared.message.Body.{Body}
use Rattle.wire_layout.specs.declared.message.Body.TheVariants.{Sync, DelayReq, FollowUp, DelayResp, Announce}
use Rattle.wire_layout.specs.declared.message.Message.{Message}
use Rattle.wire_layout.specs.contracts.message.Port as port
use Rattle.wire_layout.proofs.message.Port.TheLaws as port-laws
use Rattle.wire_layout.specs.contracts.message.Header as header
use Rattle.wire_layout.proofs.message.Header.TheLaws as header-laws
use Rattle.wire_layout.specs.contracts.message.Offer as offer
use Rattle.wire_layout.proofs.message.Offer.TheLaws as offer-laws
use Rattle.wire_layout.specs.contracts.message.Body as body
use Rattle.wire_layout.proofs.message.Body.TheLaws as body-laws
use Rattle.wire_layout.specs.contracts.message.Message as message
use Rattle.wire_layout.proofs.message.Message.TheLaws as message-laws

pub record PortIn (p : Port) : Type 0 where
  pub clock : p.clock < 2 ^ 64
  pub number : p.number < 2 ^ 16

pub record HeaderIn (h : Header) : Type 0 where
  pub flags : h.flags < 2 ^ 16
  pub correction : SFits w64 h.correction
  pub specific : h.specific < 2 ^ 32
  pub source : PortIn h.source
  pub sequence : h.sequence < 2 ^ 16
  pub interval : SFits w8 h.interval

pub record OfferIn (o : Offer) : Type 0 where
  pub utc : SFits w16 o.utc
  pub variance : o.variance < 2 ^ 16
  pub grandmaster : o.grandmaster < 2 ^ 64
  pub steps : o.steps < 2 ^ 16

abbrev pub BodyIn : Body → Type 0
BodyIn (Sync t) = Unit
BodyIn (DelayReq t) = Unit
BodyIn (FollowUp t) = Unit
BodyIn (DelayResp t p) = PortIn p
BodyIn (Announce t o) = OfferIn o

pub record MessageIn (m : Message) : Type 0 where
  pub header : HeaderIn m.header
  pub body : BodyIn m.body

port-in : (p : Port) (vs : List Val) → Is (row port.the_type) p vs → PortIn p
port-in p vs i = let f = owed port.the_type port-laws.the_laws p vs i in record { clock = f.0.1; number = f.1.0.1 }

header-in : (h : Header) (vs : List Val) → Is (row header.the_type) h vs → HeaderIn h
header-in h vs i =
    let f = (owed header.the_type header-laws.the_laws h vs i).1.1.1.1 in
    record {
      flags = f.0.1;
      correction = sfits_of f.1.0.1;
      specific = f.1.1.0.1;
      source = port-in h.source _ f.1.1.1.0;
      sequence = f.1.1.1.1.0.1;
      interval = sfits_of f.1.1.1.1.1.1.0.1;
    }

offer-in : (o : Offer) (vs : List Val) → Is (row offer.the_type) o vs → OfferIn o
offer-in o vs i =
    let f = owed offer.the_type offer-laws.the_laws o vs i in
    record {
      utc = sfits_of f.0.1;
      variance = f.1.1.1.1.1.0.1;
      grandmaster = f.1.1.1.1.1.1.1.0.1;
      steps = f.1.1.1.1.1.1.1.1.0.1;
    }

body-in : (b : Body) (vs : List Val) → Is (Enum-Row body.the_type) b vs → BodyIn b
body-in (Sync t) vs i = tt
body-in (DelayReq t) vs i = tt
body-in (FollowUp t) vs i = tt
body-in (DelayResp t p) vs i = port-in p _ (enum-owed body.the_type body-laws.the_laws (DelayResp t p) vs i).1.0
body-in (Announce t o) vs i = offer-in o _ (enum-owed body.the_type body-laws.the_laws (Announce t o) vs i).1.0

pub message-in : (m : Message) (vs : List Val) → Is (row message.the_type) m vs → MessageIn m
message-in m vs i =
    let f = owed message.the_type message-laws.the_laws m vs i in
    record { header = header-in m.header _ f.0; body = body-in m.body _ f.1.0 }
