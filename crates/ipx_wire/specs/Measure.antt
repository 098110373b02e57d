-- The numbers behind a reader's fault: what bytes say of themselves, and how many came.
use Rattle.std.specs.Prelude.{ℕ, ◌-◌, ◌/◌, ◌==◌, ◌&&◌, ◌||◌, nat_lt, if◌then◌else◌, List, ◌++◌, length, codes, decimal}
use Rattle.ipx_wire.specs.Header.{length_field}
use Rattle.ipx_wire.specs.Numbers.{header_size, operation_size, entry_size, service_size, most_entries, most_services, crossed_places, crossed_bytes}
use Rattle.ipx_wire.specs.Rip.{operation_field}
use Rattle.ipx_wire.specs.declared.measure.Measure.{Measure}
use Rattle.ipx_wire.specs.declared.measure.Measure.TheVariants.{Bytes, Length, Entries, Crossed}

-- of a packet: its length, where there is a header
abbrev pub packet_measure : List ℕ → Measure
packet_measure bytes =
    if nat_lt (length bytes) header_size then Bytes (length bytes) header_size
    else Length (length_field bytes) (length bytes)

-- of data behind an operation: how many items of a size stand there whole, and how many there may be
abbrev pub items_measure : ℕ → ℕ → List ℕ → Measure
items_measure size most payload =
    Entries (operation_field payload) (length payload) ((length payload - operation_size) / size) most

-- of routing information: its entries, where there is an operation
abbrev pub rip_measure : List ℕ → Measure
rip_measure payload =
    if nat_lt (length payload) operation_size then Bytes (length payload) operation_size
    else items_measure entry_size most_entries payload

-- of service advertising: its entries, where there is an operation, and of a query a type
abbrev pub sap_measure : List ℕ → Measure
sap_measure payload =
    if nat_lt (length payload) operation_size then Bytes (length payload) operation_size
    else if nat_lt (length payload) 4 && ((operation_field payload == 1) || (operation_field payload == 3)) then Bytes (length payload) 4
    else items_measure service_size most_services payload

-- of a packet that is propagated: how many networks it has crossed, where there is room for all
abbrev pub crossed_measure : ℕ → List ℕ → Measure
crossed_measure control payload =
    if nat_lt (length payload) crossed_bytes then Bytes (length payload) crossed_bytes
    else Crossed control (crossed_places - 1)

-- the sentence of the numbers
abbrev pub measure_text : Measure → List ℕ
measure_text (Bytes came least) = decimal came ++ codes " bytes came, and " ++ decimal least ++ codes " are needed"
measure_text (Length said came) = decimal came ++ codes " bytes came, and " ++ decimal said ++ codes " are counted"
measure_text (Entries operation came whole most) =
    decimal came ++ codes " bytes came, with " ++ decimal whole ++ codes " whole entries of at most " ++ decimal most
    ++ codes " behind operation " ++ decimal operation
measure_text (Crossed said most) = decimal said ++ codes " networks were crossed, of at most " ++ decimal most
