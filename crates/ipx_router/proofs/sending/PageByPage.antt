-- A list that is sent page by page: its last packets.
use Rattle.std.proofs.Common.{sym, subst, List}
use Rattle.ipx_router.specs.Outbox.{Contents, Appends}
use Rattle.ipx_router.specs.inside.Owed.{Pays}
use Rattle.ipx_router.specs.Relays.{Sent}
use Rattle.ipx_router.proofs.sending.OneAfterAnother.{appends_then}

-- the last packets are sent too
pub pays_rest : {a b c : Contents} {ps qs : List Sent} → Pays a b ps qs → Appends b c qs → Appends a c ps
pays_rest {a} {b} {c} pays rest = subst (Appends a c) (sym pays.whole) (appends_then pays.appends rest)
