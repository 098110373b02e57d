-- The lines of service advertising.
use Rattle.std.specs.Prelude.{ℕ, Bool, if◌then◌else◌, List, ◌++◌, codes, Option, Some, None, Result, Ok, Err}
use Rattle.std.specs.Int.{to_be_bytes, w16}
use Rattle.std.specs.List.{flat_map}
use Rattle.hex.specs.Hex.{encode_upper}
use Rattle.ipx_wire.specs.declared.sap.Sap.{Sap}
use Rattle.ipx_wire.specs.declared.sap.Sap.TheVariants.{Query, Response}
use Rattle.ipx_wire.specs.declared.sap.SapFault.{SapFault}
use Rattle.ipx_wire.specs.declared.sap_entries.SapEntry.{SapEntry}
use Rattle.ipx_wire.specs.declared.service.Service.{Service}
use Rattle.ipx_router.specs.WhyWord.{sap_word}
use Rattle.ipx_cmd.specs.ServiceWords.{service_words}

-- the scope of a query or a response
abbrev pub scope_word : Bool → List ℕ
scope_word nearest = if nearest then codes "nearest" else codes "general"

-- the service that an entry with that name advertises
abbrev pub service_of : List ℕ → SapEntry → Service
service_of name e = record { kind = e.kind; name = name; address = e.address; hops = e.hops }

-- an entry, or `service bad` for one without a name
abbrev pub named_text : Option (List ℕ) → SapEntry → List ℕ
named_text (Some name) e = service_words (service_of name e) ++ codes "\n"
named_text None e = codes "service bad\n"

unfoldable pub service_entry_text : SapEntry → List ℕ
service_entry_text e = named_text e.name e

-- the query, or a response and a line per entry, or why there is neither
unfoldable pub sap_text : Result Sap SapFault → List ℕ
sap_text (Ok (Query nearest kind)) = codes "sap " ++ scope_word nearest ++ codes "-query " ++ encode_upper (to_be_bytes w16 kind) ++ codes "\n"
sap_text (Ok (Response nearest entries)) = codes "sap " ++ scope_word nearest ++ codes "-response\n" ++ flat_map service_entry_text entries
sap_text (Err fault) = codes "sap bad " ++ sap_word fault ++ codes "\n"
