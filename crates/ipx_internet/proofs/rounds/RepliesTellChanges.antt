-- What is sent for a reply: pages of changes; and what may be heard of them.
use Rattle.std.proofs.Common.{◌≡◌, refl, sym, ap, ◌∙◌, subst, ◌⊎◌, ℕ, ◌==◌, Bool, true, false, List, ◌++◌, ◌∷◌, [], map, Option, Some, None, IfSome, Result, Ok, Err, inl, inr, arith, rules}
use Rattle.std.specs.List.{AllByRecursion}
use Rattle.std.proofs.lemmas.Bool.{cases_Bool}
use Rattle.ipx_wire.specs.Packet.{Parts, packet_of}
use Rattle.ipx_wire.specs.Rip.{RipParts, rip_of}
use Rattle.ipx_wire.specs.Sap.{sap_of}
use Rattle.ipx_wire.specs.Write.{rip_packet_parts, rip_payload}
use Rattle.ipx_wire.specs.WriteServices.{entry_of, sap_packet_parts, sap_payload}
use Rattle.ipx_wire.specs.declared.address.Address.{Address}
use Rattle.ipx_wire.specs.declared.rip.Operation.TheVariants.{Response}
use Rattle.ipx_wire.specs.declared.rip.RipEntry.{RipEntry}
use Rattle.ipx_wire.specs.declared.rip.RipFault.{RipFault}
use Rattle.ipx_wire.specs.declared.sap.Sap.{Sap}
use Rattle.ipx_wire.specs.declared.sap.Sap.TheVariants.{Response as SapResponse}
use Rattle.ipx_wire.specs.declared.sap.SapFault.{SapFault}
use Rattle.ipx_wire.specs.declared.sap_entries.SapEntry.{SapEntry}
use Rattle.ipx_wire.specs.declared.service.Service.{Service}
use Rattle.ipx_router.specs.Facts.{heard_after, routes_held, services_held, offers}
use Rattle.ipx_router.specs.Heard.{Heard, HeardRip, HeardSap, heard_in, heard_near}
use Rattle.ipx_router.specs.History.{History, Packet, running, ports_up}
use Rattle.ipx_router.specs.News.{news, news_services}
use Rattle.ipx_router.specs.Numbers.{rip_socket}
use Rattle.ipx_router.specs.Port.{Port, port_at, own_address, everyone, own_services, every_server}
use Rattle.ipx_router.specs.Relays.{Sent}
use Rattle.ipx_router.specs.Why.{is_near}
use Rattle.ipx_router.proofs.bytes.ReadInOneWay.{one_read}
use Rattle.ipx_router.proofs.tables.HeldWasOffered.{came_in}
use Rattle.ipx_internet.specs.Internet.{Internet, IsInternet, ports_of, port_of}
use Rattle.ipx_internet.specs.Queue.{Delivery, history_of}
use Rattle.ipx_internet.specs.Rounds.{IsDelivery}
use Rattle.ipx_internet.specs.Run.{AreHistories}
use Rattle.ipx_internet.proofs.deliveries.WaitsAfterDelivery.{all_wait}
use Rattle.ipx_internet.proofs.lists.EachElement.{all_then, all_mapped}
use Rattle.ipx_internet.proofs.lists.FoundInAList.{nothing, it_is}
use Rattle.ipx_internet.proofs.packets.PagesReadAgain.{IsRipPage, IsSapPage}
use Rattle.ipx_internet.proofs.packets.ResponsesAskNothing.{answering}
use Rattle.ipx_internet.proofs.packets.SentOnOrReply.{Layouts, IsReply, IsNewsSent, IsCast, IsOnward, news_reply, no_reply, unsaid, answered}
use Rattle.ipx_internet.proofs.places.OneReceiverOfANode.{ports_at}
use Rattle.ipx_internet.proofs.records.HeardChangesItsKeys.{EachHeard}
use Rattle.ipx_internet.proofs.rounds.OneRound.{sents, sent_for}
use Rattle.ipx_internet.proofs.rounds.SentOnRunsOut.{Calm, reply_moves}

-- all that may be heard of the bytes, by whatever reader, has such entries
abbrev pub Says : (RipEntry → Type 0) → (SapEntry → Type 0) → List ℕ → Type 0
Says E S bytes = (p : Parts) (m : Heard) → packet_of bytes ≡ Ok p → heard_in p ≡ Some m → EachHeard E S m

-- the bytes are a page of entries for the RIP process
pub record TellsRoutes (P : RipEntry → Type 0) (bytes : List ℕ) : Type 0 where
  pub from : Address
  pub to : Address
  pub for_rip : (to.socket.0 == rip_socket) ≡ true
  pub page : IsRipPage P from to bytes

-- the bytes are a page of services for the SAP process
pub record TellsServices (Q : Service → Type 0) (bytes : List ℕ) : Type 0 where
  pub from : Address
  pub to : Address
  pub nearest : Bool
  pub for_sap : (to.socket.0 == rip_socket) ≡ false
  pub page : IsSapPage Q from to nearest bytes

abbrev pub Tells : (RipEntry → Type 0) → (Service → Type 0) → List ℕ → Type 0
Tells P Q bytes = TellsRoutes P bytes ⊎ TellsServices Q bytes

-- ---- what is told is what may be heard

-- a page of entries for the RIP process is heard as what was written
pub page_heard : (P : RipEntry → Type 0) (from to : Address) (bytes : List ℕ) → (to.socket.0 == rip_socket) ≡ true → (is : IsRipPage P from to bytes) (p : Parts) (m : Heard)
    → packet_of bytes ≡ Ok p → heard_in p ≡ Some m → Some (HeardRip from (record { operation = Response; entries = is.page })) ≡ Some m
page_heard P from to bytes for_rip is p m read e =
    let same : p ≡ rip_packet_parts from to Response is.page = one_read (packet_of bytes) p (rip_packet_parts from to Response is.page) read is.read in
    let heard : heard_in (rip_packet_parts from to Response is.page) ≡ Some m = subst (λ (q : Parts). heard_in q ≡ Some m) same e in
    let rip : from_rip (rip_of (rip_payload Response is.page)) ≡ Some m = rw for_rip at heard in
    sym (ap from_rip is.says) ∙ rip
  where
    from_rip : Result RipParts RipFault → Option Heard
    from_rip r = elim r [ Ok rip ↦ Some (HeardRip from rip) | Err fault ↦ None ]

-- and a page of services for the SAP process
pub services_heard_of : (Q : Service → Type 0) (from to : Address) (nearest : Bool) (bytes : List ℕ) → (to.socket.0 == rip_socket) ≡ false
    → (is : IsSapPage Q from to nearest bytes) (p : Parts) (m : Heard)
    → packet_of bytes ≡ Ok p → heard_in p ≡ Some m → Some (HeardSap from (SapResponse nearest (map entry_of is.page))) ≡ Some m
services_heard_of Q from to nearest bytes for_sap is p m read e =
    let same : p ≡ sap_packet_parts from to nearest is.page = one_read (packet_of bytes) p (sap_packet_parts from to nearest is.page) read is.read in
    let heard : heard_in (sap_packet_parts from to nearest is.page) ≡ Some m = subst (λ (q : Parts). heard_in q ≡ Some m) same e in
    let sap : from_sap (sap_of (sap_payload nearest is.page)) ≡ Some m = rw for_sap at heard in
    sym (ap from_sap is.says) ∙ sap
  where
    from_sap : Result Sap SapFault → Option Heard
    from_sap r = elim r [ Ok sap ↦ Some (HeardSap from sap) | Err fault ↦ None ]

module _ (P : RipEntry → Type 0) (Q : Service → Type 0) (E : RipEntry → Type 0) (S : SapEntry → Type 0)
    (route : (e : RipEntry) → P e → E e) (service : (s : Service) → Q s → S (entry_of s)) (bytes : List ℕ) where
  routes_say : TellsRoutes P bytes → Says E S bytes
  routes_say tells p m read e = grind (arith, it_is, EachHeard, page_heard, all_then)

  services_say : TellsServices Q bytes → Says E S bytes
  services_say tells p m read e =
      let page = tells.page in
      it_is (EachHeard E S) m (HeardSap tells.from (SapResponse tells.nearest (map entry_of page.page)))
      (services_heard_of Q tells.from tells.to tells.nearest bytes tells.for_sap page p m read e)
      (all_mapped S entry_of page.page (all_then Q (λ s. S (entry_of s)) service page.page page.each))

  pub tells_says : Tells P Q bytes → Says E S bytes
  tells_says given = search (rules, routes_say, services_say)

-- what is told of such is told of all that they are
pub tells_more : (P A : RipEntry → Type 0) (Q B : Service → Type 0) → ((e : RipEntry) → P e → A e) → ((s : Service) → Q s → B s) → (bytes : List ℕ)
    → Tells P Q bytes → Tells A B bytes
tells_more P A Q B route service bytes (inl tells) =
    let page = tells.page in
    inl (record {
      from = tells.from;
      to = tells.to;
      for_rip = tells.for_rip;
      page = record { page = page.page; some = page.some; each = all_then P A route page.page page.each; read = page.read; says = page.says };
    })
tells_more P A Q B route service bytes (inr tells) =
    let page = tells.page in
    inr (record {
      from = tells.from;
      to = tells.to;
      nearest = tells.nearest;
      for_sap = tells.for_sap;
      page = record { page = page.page; some = page.some; each = all_then Q B service page.page page.each; read = page.read; says = page.says };
    })

-- a reply that tells of such
pub record IsTold (P : RipEntry → Type 0) (Q : Service → Type 0) (port : Port) (bytes : List ℕ) : Type 0 where
  pub reply : IsReply port bytes
  pub tells : Tells P Q bytes

pub told_moves : (P : RipEntry → Type 0) (Q : Service → Type 0) (a b : Port) (bytes : List ℕ) → b.network ≡ a.network → IsTold P Q a bytes → IsTold P Q b bytes
told_moves P Q a b bytes same told = record { reply = reply_moves a b bytes same told.reply; tells = told.tells }

-- a page of changes is one
pub news_told : (P : RipEntry → Type 0) (Q : Service → Type 0) (port : Port) (bytes : List ℕ) → IsNewsSent P Q port bytes → IsTold P Q port bytes
news_told P Q port bytes is = record { reply = news_reply P Q port bytes is; tells = by is }
  where
    by : IsNewsSent P Q port bytes → Tells P Q bytes
    by (inl page) = inl (record { from = own_address port; to = everyone port; for_rip = refl; page = page })
    by (inr page) = inr (record { from = own_services port; to = every_server port; nearest = false; for_sap = refl; page = page })

-- ---- what is sent for a reply

module _ (net : Internet) (laws : Layouts) (is : IsInternet net) (most_routes most_services : ℕ) (histories : List History) (are : AreHistories net histories)
    (d : Delivery) (calm : Calm net laws is most_routes most_services d) where
  abbrev pub ports : List Port
  ports = ports_of net d.to.router

  abbrev pub history : History
  history = history_of histories d.to.router

  abbrev pub now : History
  now = history ++ Packet d.to.port d.bytes ∷ []

  abbrev pub heard_now : Option Heard
  heard_now = heard_after ports history d.to.port d.bytes

  -- what is heard of it was in its packet
  pub heard_from : (m : Heard) → heard_now ≡ Some m → heard_in calm.1.packet ≡ Some m
  heard_from m e =
      let came = came_in ports (ports_up ports history) d.to.port (running history) d.bytes m e in
      subst (λ (p : Parts). heard_in p ≡ Some m) (one_read (packet_of d.bytes) came.packet calm.1.packet came.read calm.1.read) (near came.packet came.near)
    where
      near : (p : Parts) → heard_near (port_at ports d.to.port) p ≡ Some m → heard_in p ≡ Some m
      near p e = elim (cases_Bool (is_near (port_at ports d.to.port) p.header)) [
        | inl here ↦ rw here at e
        | inr far ↦ nothing (rw far at e)
      ]

  -- so its entries are such
  pub heard_says : (E : RipEntry → Type 0) (S : SapEntry → Type 0) → Says E S d.bytes → IfSome heard_now (EachHeard E S)
  heard_says E S says = by heard_now refl
    where
      by : (o : Option Heard) → heard_now ≡ o → IfSome o (EachHeard E S)
      by None e = tt
      by (Some m) e = says calm.1.packet m calm.1.read (heard_from m e)

  module _ (P : RipEntry → Type 0) (Q : Service → Type 0)
      (routes : (j : ℕ) → AllByRecursion P (news ports (offers (routes_held ports most_routes history)) (offers (routes_held ports most_routes now)) j))
      (services : (j : ℕ) → AllByRecursion Q (news_services (offers (services_held ports most_services history)) (offers (services_held ports most_services now)) j)) where
    all_told : AllByRecursion (λ s. IsTold P Q (port_at ports s.port) s.bytes) (sents net most_routes most_services histories d)
    all_told = by heard_now refl
      where
        these : List Sent
        these = sents net most_routes most_services histories d

        by : (o : Option Heard) → heard_now ≡ o → AllByRecursion (λ s. IsTold P Q (port_at ports s.port) s.bytes) these
        by None e =
            all_then (λ s. IsOnward (port_at ports d.to.port) d.bytes s.bytes) (λ s. IsTold P Q (port_at ports s.port) s.bytes)
            (λ s on. absurd (no_reply (port_at ports d.to.port) d.bytes s.bytes calm.1 on)) these
            (unsaid laws ports (ports_at net is d.to.router) most_routes most_services history (are.on_ports d.to.router) (are.of_bytes d.to.router)
            d.to.port d.bytes calm.0.place calm.0.bytes e)
        by (Some m) e =
            all_then (IsCast (ports_up ports now) (λ j. P) (λ j. Q) ports) (λ s. IsTold P Q (port_at ports s.port) s.bytes)
            (λ s sent. news_told P Q (port_at ports s.port) s.bytes sent.news) these
            (answered laws ports (ports_at net is d.to.router) most_routes most_services history (are.on_ports d.to.router) (are.of_bytes d.to.router)
            d.to.port d.bytes calm.0.place calm.0.bytes (λ j. P) (λ j. Q) routes services m e (answering calm.1.packet calm.1.answers m (heard_from m e)))

    pub telling : AllByRecursion (λ e. IsDelivery net e × IsTold P Q (port_of net e.to) e.bytes) (sent_for net most_routes most_services histories d)
    telling = all_wait net laws is most_routes most_services histories are d calm.0 (IsTold P Q) (told_moves P Q) all_told
