use Rattle.ipx_tunnel.proofs.Silence.{pinged, cookie_last, pings_exact, client_heard}
use Rattle.ipx_tunnel.proofs.laws.pings.Goals as goal

pub returns-clause-every_five : goal.returns-clause-every_five
returns-clause-every_five c = λ setting history place last client. pinged setting place history last client

pub returns-clause-cookie : goal.returns-clause-cookie
returns-clause-cookie c = λ setting history place last. cookie_last setting place history last

pub returns-clause-exact : goal.returns-clause-exact
returns-clause-exact c = λ setting history place last client. pings_exact setting place history last client

pub returns-clause-heard : goal.returns-clause-heard
returns-clause-heard c = λ setting history place client. client_heard setting place history client
