-- Services, their bytes, and the entries that they are read as.
use Rattle.std.proofs.Common.{◌≡◌, ℕ, zero, suc, ◌+◌, ◌*◌, ◌≤◌, ◌<◌, ◌^◌, Bool, List, [], ◌∷◌, ◌++◌, length, take, map, get_or, Some, refl, ap, ◌∙◌, arith, subst, append-nil, length-append, lit<}
use Rattle.std.proofs.lemmas.List.{length-replicate, length-map}
use Rattle.std.specs.Int.{to_be_bytes, w16}
use Rattle.std.specs.List.{flat_map, AllByRecursion}
use Rattle.ipx_wire.specs.Address.{IsAddress}
use Rattle.ipx_wire.specs.Header.{header_bytes}
use Rattle.ipx_wire.specs.Name.{IsServiceName, IsName, name_of, name_field}
use Rattle.ipx_wire.specs.Numbers.{most_services}
use Rattle.ipx_wire.specs.Sap.{IsQuery, IsResponse, response_number}
use Rattle.ipx_wire.specs.Write.{query_payload}
use Rattle.ipx_wire.specs.SapEntries.{Stored, IsStored, stored_bytes}
use Rattle.ipx_wire.specs.WriteServices.{IsService, service_bytes, entry_of, sap_payload, sap_packet, sap_packet_parts}
use Rattle.ipx_wire.specs.declared.address.Address.{Address}
use Rattle.ipx_wire.specs.declared.sap_entries.SapEntry.{SapEntry}
use Rattle.ipx_wire.specs.declared.service.Service.{Service}
use Rattle.ipx_wire.proofs.Headers.{length-header_bytes}
use Rattle.ipx_wire.proofs.Items.{length-written}
use Rattle.ipx_wire.proofs.Names.{name_only}
use Rattle.ipx_wire.specs.Packet.{IsPacket}
use Rattle.ipx_wire.proofs.Written.{own_ranges}
use Rattle.ipx_wire.proofs.StoredEntries.{length-stored_bytes}

-- the field of a name has this name
pub name_field-is : (name : List ℕ) → IsServiceName name → IsName (name_field name) name
unfolding name_field
name_field-is name is = grind (arith, length-append, length-replicate)

-- the field of a name is read as this name
pub name_again : (name : List ℕ) → IsServiceName name → name_of (name_field name) ≡ Some name
name_again name is = name_only (name_field name) name (name_field-is name is)

-- a service as an entry and the field of its name
abbrev pub stored_of : Service → Stored
stored_of s = record { field = name_field s.name; entry = entry_of s }

service_stored : (s : Service) → service_bytes s ≡ stored_bytes (stored_of s)
unfolding service_bytes stored_bytes
service_stored s = refl

is_stored : (s : Service) → IsService s → IsStored (stored_of s)
is_stored s is =
    let field = name_field-is s.name is.named in
    record { kind = is.kind; size = field.size; name = field; address = is.address; hops = is.hops }

-- a service is 64 bytes
pub length-service_bytes : (s : Service) → IsService s → length (service_bytes s) ≡ 64
length-service_bytes s is = ap length (service_stored s) ∙ length-stored_bytes (stored_of s) (is_stored s is)

services_stored : (ss : List Service) → flat_map service_bytes ss ≡ flat_map stored_bytes (map stored_of ss)
services_stored [] = refl
services_stored (s ∷ ss) = grind (arith, services_stored ss, service_stored)

all_stored : (ss : List Service) → AllByRecursion IsService ss → AllByRecursion IsStored (map stored_of ss)
all_stored [] are = tt
all_stored (s ∷ ss) are = (is_stored s are.0, all_stored ss are.1)

told_stored : (ss : List Service) → map entry_of ss ≡ map (λ s. s.entry) (map stored_of ss)
told_stored [] = refl
told_stored (s ∷ ss) = ap (λ (es : List SapEntry). entry_of s ∷ es) (told_stored ss)

-- what is written of as many services as a packet may have is the response that tells them, whatever fewer than 64 bytes follow
pub response_again : (nearest : Bool) (ss : List Service) (further : List ℕ) → 1 ≤ length ss → length ss ≤ most_services → AllByRecursion IsService ss → length further < 64
    → IsResponse (sap_payload nearest ss ++ further) nearest (map entry_of ss)
response_again nearest ss further some most are few =
    let front = to_be_bytes w16 (response_number nearest) in
    let many : length (map entry_of ss) ≡ length ss = length-map ss entry_of in
    record {
      stored = map stored_of ss;
      further = further;
      layout = ap (λ (x : List ℕ). front ++ x ++ further) (services_stored ss);
      told = told_stored ss;
      some = omega (arith, some, many);
      most = omega (arith, most, many);
      ignored = few;
      each = all_stored ss are;
    }

pub is_written_response : (nearest : Bool) (ss : List Service) → 1 ≤ length ss → length ss ≤ most_services → AllByRecursion IsService ss
    → IsResponse (sap_payload nearest ss) nearest (map entry_of ss)
is_written_response nearest ss some most are =
    subst (λ (x : List ℕ). IsResponse x nearest (map entry_of ss)) (append-nil (sap_payload nearest ss))
    (response_again nearest ss [] some most are (lit< tt))

-- the data of a query are read as that query
pub query_again : (nearest : Bool) (kind : ℕ) (further : List ℕ) → kind < 2 ^ 16 → IsQuery (query_payload nearest kind ++ further) nearest kind
query_again nearest kind further small = record { further = further; layout = refl; range = small }

-- how many bytes services have
pub length-services : (ss : List Service) → AllByRecursion IsService ss → length (flat_map service_bytes ss) ≡ 64 * length ss
length-services ss are = length-written service_bytes IsService 64 length-service_bytes ss are

pub length-sap_payload : (nearest : Bool) (ss : List Service) → AllByRecursion IsService ss → length (sap_payload nearest ss) ≡ 2 + 64 * length ss
length-sap_payload nearest ss are = grind (arith, length-append, length-services)

-- how long a response is
pub length-sap_packet : (from to : Address) (nearest : Bool) (ss : List Service) → IsAddress from → IsAddress to → AllByRecursion IsService ss
    → length (sap_packet from to nearest ss) ≡ 32 + 64 * length ss
length-sap_packet from to nearest ss from_is to_is are =
    let h = (sap_packet_parts from to nearest ss).header in
    let d = (sap_packet_parts from to nearest ss).payload in
    omega (arith, length-append (header_bytes h) d, length-header_bytes h to_is.node from_is.node, length-sap_payload nearest ss are)

-- one more of which it holds
pub each_more : {X : Type 0} (is : X → Type 0) (xs : List X) (i : ℕ) (d : X) → i < length xs → AllByRecursion is (take i xs) → is (get_or xs i d)
    → AllByRecursion is (take (i + 1) xs)
each_more is xs i d below before this =
    subst (λ (n : ℕ). AllByRecursion is (take n xs)) (let next : suc i ≡ i + 1 = omega arith in next) (one_more is xs i d below before this)
  where
    one_more : {X : Type 0} (is : X → Type 0) (xs : List X) (i : ℕ) (d : X) → i < length xs → AllByRecursion is (take i xs) → is (get_or xs i d)
        → AllByRecursion is (take (suc i) xs)
    one_more is [] i d below before this = tt
    one_more is (x ∷ xs) zero d below before this = (this, tt)
    one_more is (x ∷ xs) (suc i) d below before this = (before.0, one_more is xs i d (omega (arith, below)) before.1 this)

-- the packet of services is read again, whatever bytes follow
pub sap_packet_again : (from to : Address) (nearest : Bool) (services : List Service) (further : List ℕ) → IsAddress from → IsAddress to
    → length services ≤ most_services → AllByRecursion IsService services
    → IsPacket (sap_packet from to nearest services ++ further) (sap_packet_parts from to nearest services)
sap_packet_again from to nearest services further from_is to_is most are = record {
  header = own_ranges 4 from to (2 + 64 * length services) (lit< tt) from_is to_is (omega (arith, most));
  padding = further;
  layout = refl;
  counted = (let long = length-sap_payload nearest services are in omega (arith, long));
}
