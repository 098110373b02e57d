-- What is written in a neighbour's name is heard as its word.
use Rattle.std.proofs.Common.{◌≡◌, ◌∙◌, refl, ap, ℕ, ◌==◌, ◌&&◌, ◌||◌, not, nat_lt, is_none, Bool, true, false, if◌then◌else◌, List, [], ◌∷◌, ◌++◌, Option, None, Some, Result, Ok, Err}
use Rattle.std.specs.List.{AllByRecursion}
use Rattle.std.proofs.lemmas.Bool.{eq-eqb}
use Rattle.ipx_wire.specs.Numbers.{rip_socket, sap_socket, local_network}
use Rattle.ipx_wire.specs.Packet.{Parts, packet_of}
use Rattle.ipx_wire.specs.Rip.{RipParts, rip_of}
use Rattle.ipx_wire.specs.Sap.{sap_of}
use Rattle.ipx_wire.specs.declared.node.Node.{Node}
use Rattle.ipx_wire.specs.declared.packet.PacketFault.{PacketFault}
use Rattle.ipx_wire.specs.declared.rip.RipEntry.{RipEntry}
use Rattle.ipx_wire.specs.declared.rip.RipFault.{RipFault}
use Rattle.ipx_wire.specs.declared.sap.Sap.{Sap}
use Rattle.ipx_wire.specs.declared.sap.Sap.TheVariants.{Response}
use Rattle.ipx_wire.specs.declared.sap.SapFault.{SapFault}
use Rattle.ipx_wire.specs.declared.sap_entries.SapEntry.{SapEntry}
use Rattle.ipx_wire.specs.declared.service.Service.{Service}
use Rattle.ipx_router.specs.Heard.{Heard, HeardRip, HeardSap, heard, heard_in, heard_near}
use Rattle.ipx_router.specs.Outgoing.{way_to, is_own_port}
use Rattle.ipx_router.specs.Port.{Port, port_at, broadcast, is_up, same_node, is_local}
use Rattle.ipx_router.specs.Why.{when, first_of, checks, is_stopped, is_nearest_response, is_near, is_far, is_own_echo, is_bad_source, is_elsewhere, is_other_socket, is_not_neighbour, is_nearest_reply, is_through_too_many, is_far_side, is_for_rip, is_for_sap, is_no_route, is_too_long, is_down_port}
use Rattle.ipx_router.specs.declared.why.Why.{Why}
use Rattle.ipx_router.specs.declared.why.Why.TheVariants.{NotRunning, Malformed, OwnEcho, BadSource, Elsewhere, OtherSocket, NotNeighbour, BadRip, BadSap, NearestReply, TooManyRouters, FarSide, NoRoute, TooLong, DownPort}
use Rattle.ipx_edge.specs.Statics.{neighbour_at, static_routes, static_services}

-- ---- tests

either : (b : Bool) → (b || true) ≡ true
either true = refl
either false = refl

neither : (b : Bool) → (b && false) ≡ false
neither true = refl
neither false = refl

own_local : (port : Port) → is_local port port.network ≡ true
own_local port = ap (λ (b : Bool). (port.network.0 == local_network) || b) (eq-eqb port.network.0 port.network.0 refl) ∙ either (port.network.0 == local_network)

-- ---- a list of checks of which none holds

no_check : (list : List (Option Why)) → AllByRecursion (λ check. check ≡ None) list → first_of list ≡ None
no_check [] all = refl
no_check (None ∷ list) all = no_check list all.1
no_check (Some reason ∷ list) all = absurd cc

first_false : (a b : Bool) → a ≡ false → (a && b) ≡ false
first_false a b e = ap (λ (x : Bool). x && b) e

quiet : (b : Bool) (reason : Why) → b ≡ false → when b reason ≡ None
quiet b reason e = ap (λ (x : Bool). when x reason) e

module _ (ports : List Port) (up : List ℕ) (number : ℕ) (bytes : List ℕ) (node : Node) where
  abbrev port : Port
  port = port_at ports number

  -- what is heard of what was read
  abbrev heard_as : Result Parts PacketFault → Option Heard
  heard_as r =
      elim (first_of
      (when (is_stopped true) NotRunning
      ∷ elim r [ Ok p ↦ None | Err fault ↦ Some (Malformed fault) ]
      ∷ (elim r [ Ok p ↦ checks ports up [] port p | Err fault ↦ [] ] ++ when (is_down_port up number) DownPort ∷ []))) [
        | Some reason ↦ None
        | None ↦ elim r [ Ok p ↦ heard_near port p | Err fault ↦ None ]
      ]

  -- what no check drops is heard
  unchecked : (p : Parts) → AllByRecursion (λ check. check ≡ None) (checks ports up [] port p ++ when (is_down_port up number) DownPort ∷ [])
      → packet_of bytes ≡ Ok p → heard ports up true number bytes ≡ heard_near port p
  unchecked p all is =
      ap heard_as is
      ∙ ap (λ (w : Option Why). elim w as (λ _. Option Heard) [ Some reason ↦ None | None ↦ heard_near port p ])
      (no_check (checks ports up [] port p ++ when (is_down_port up number) DownPort ∷ []) all)

  rip_is_read : (b : Bool) (x : Result RipParts RipFault) (r : RipParts) → x ≡ Ok r
      → (if b then elim x as (λ _. Option Why) [ Ok it ↦ None | Err fault ↦ Some (BadRip fault) ] else None) ≡ None
  rip_is_read true (Ok it) r e = refl
  rip_is_read true (Err fault) r e = absurd cc
  rip_is_read false x r e = refl

  no_rip : (b : Bool) (x : Result RipParts RipFault)
      → (if b && false then elim x as (λ _. Option Why) [ Ok it ↦ None | Err fault ↦ Some (BadRip fault) ] else None) ≡ None
  no_rip true x = refl
  no_rip false x = refl

  sap_is_read : (b : Bool) (x : Result Sap SapFault) (s : Sap) → x ≡ Ok s
      → (if b then elim x as (λ _. Option Why) [ Ok it ↦ None | Err fault ↦ Some (BadSap fault) ] else None) ≡ None
  sap_is_read true (Ok it) s e = refl
  sap_is_read true (Err fault) s e = absurd cc
  sap_is_read false x s e = refl

  no_sap : (b : Bool) (x : Result Sap SapFault)
      → (if b && false then elim x as (λ _. Option Why) [ Ok it ↦ None | Err fault ↦ Some (BadSap fault) ] else None) ≡ None
  no_sap true x = refl
  no_sap false x = refl

  pub routes_heard : (entries : List RipEntry) (r : RipParts) → packet_of bytes ≡ Ok (static_routes port node entries) → rip_of (static_routes port node entries).payload ≡ Ok r
      → same_node node port.node ≡ false → same_node node broadcast ≡ false → is_up up number ≡ true
      → heard ports up true number bytes ≡ Some (HeardRip (neighbour_at port node rip_socket) r)
  routes_heard entries r is read other one goes_up =
      let p = static_routes port node entries in
      let h = p.header in
      let local = own_local port in
      let near = is_near port h in
      let far : is_far port h ≡ false = ap not local in
      unchecked p (
        quiet (is_own_echo port h) OwnEcho (first_false (same_node node port.node) (is_local port port.network) other),
        (
          quiet (is_bad_source h) BadSource one,
          (
            refl,
            (
              refl,
              (
                refl,
                (
                  quiet (is_elsewhere port h) Elsewhere (ap (λ (b : Bool). near && not b) (either (same_node broadcast port.node)) ∙ neither near),
                  (
                    quiet (is_other_socket port h) OtherSocket (neither near),
                    (
                      quiet (is_not_neighbour port h) NotNeighbour (ap (λ (b : Bool). near && not b) local ∙ neither near),
                      (
                        rip_is_read (near && is_for_rip h) (rip_of p.payload) r read,
                        (
                          no_sap near (sap_of p.payload),
                          (
                            quiet (is_nearest_reply port p) NearestReply (first_false (near && is_for_sap h) (elim (sap_of p.payload) as (λ _. Bool) [ Ok it ↦ is_nearest_response it | Err fault ↦ false ]) (neither near)),
                            (
                              quiet (is_through_too_many port h) TooManyRouters (neither (is_far port h)),
                              (
                                quiet (is_far_side ports port h) FarSide (first_false (is_far port h) (is_own_port ports h.destination) far),
                                (
                                  quiet (is_no_route ports up [] port h) NoRoute (first_false (is_far port h) (is_none (way_to ports up [] h.destination)) far),
                                  (
                                    quiet (is_too_long ports up [] port h) TooLong (first_false (is_far port h) (elim (way_to ports up [] h.destination) [ Some way ↦ nat_lt (port_at ports way.port).longest h.length | None ↦ false ]) far),
                                    (quiet (is_down_port up number) DownPort (ap not goes_up), tt),
                                  ),
                                ),
                              ),
                            ),
                          ),
                        ),
                      ),
                    ),
                  ),
                ),
              ),
            ),
          ),
        ),
      )
      is
      ∙ ap (λ (b : Bool). if b then heard_in p else None) local
      ∙ ap (λ (x : Result RipParts RipFault). elim x as (λ _. Option Heard) [ Ok rip ↦ Some (HeardRip h.source rip) | Err fault ↦ None ]) read

  pub services_heard : (services : List Service) (entries : List SapEntry) → packet_of bytes ≡ Ok (static_services port node services)
      → sap_of (static_services port node services).payload ≡ Ok (Response false entries)
      → same_node node port.node ≡ false → same_node node broadcast ≡ false → is_up up number ≡ true
      → heard ports up true number bytes ≡ Some (HeardSap (neighbour_at port node sap_socket) (Response false entries))
  services_heard services entries is read other one goes_up =
      let p = static_services port node services in
      let h = p.header in
      let local = own_local port in
      let near = is_near port h in
      let far : is_far port h ≡ false = ap not local in
      unchecked p (
        quiet (is_own_echo port h) OwnEcho (first_false (same_node node port.node) (is_local port port.network) other),
        (
          quiet (is_bad_source h) BadSource one,
          (
            refl,
            (
              refl,
              (
                refl,
                (
                  quiet (is_elsewhere port h) Elsewhere (ap (λ (b : Bool). near && not b) (either (same_node broadcast port.node)) ∙ neither near),
                  (
                    quiet (is_other_socket port h) OtherSocket (neither near),
                    (
                      quiet (is_not_neighbour port h) NotNeighbour (ap (λ (b : Bool). near && not b) local ∙ neither near),
                      (
                        no_rip near (rip_of p.payload),
                        (
                          sap_is_read (near && is_for_sap h) (sap_of p.payload) (Response false entries) read,
                          (
                            quiet (is_nearest_reply port p) NearestReply (ap (λ (x : Result Sap SapFault). near && is_for_sap h && elim x as (λ _. Bool) [ Ok it ↦ is_nearest_response it | Err fault ↦ false ]) read ∙ neither (near && is_for_sap h)),
                            (
                              quiet (is_through_too_many port h) TooManyRouters (neither (is_far port h)),
                              (
                                quiet (is_far_side ports port h) FarSide (first_false (is_far port h) (is_own_port ports h.destination) far),
                                (
                                  quiet (is_no_route ports up [] port h) NoRoute (first_false (is_far port h) (is_none (way_to ports up [] h.destination)) far),
                                  (
                                    quiet (is_too_long ports up [] port h) TooLong (first_false (is_far port h) (elim (way_to ports up [] h.destination) [ Some way ↦ nat_lt (port_at ports way.port).longest h.length | None ↦ false ]) far),
                                    (quiet (is_down_port up number) DownPort (ap not goes_up), tt),
                                  ),
                                ),
                              ),
                            ),
                          ),
                        ),
                      ),
                    ),
                  ),
                ),
              ),
            ),
          ),
        ),
      )
      is
      ∙ ap (λ (b : Bool). if b then heard_in p else None) local
      ∙ ap (λ (x : Result Sap SapFault). elim x as (λ _. Option Heard) [ Ok sap ↦ Some (HeardSap h.source sap) | Err fault ↦ None ]) read
