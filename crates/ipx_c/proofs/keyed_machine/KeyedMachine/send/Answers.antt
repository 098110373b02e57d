use Rattle.std.proofs.Common.{refl}
use Rattle.ipx_c.proofs.keyed_machine.KeyedMachine.send.Goals as goal

pub returns : goal.returns
returns c = record {
  tunnel = refl;
  came = λ bytes. record {
    setting = refl;
    stands = λ history stood. c.send.ensures.stands bytes history stood;
    own = λ history stood. search;
    pings = λ history stood. search;
    receivers = λ history stood. c.send.ensures.to bytes history stood;
    left = λ history stood. search;
    carried = refl;
    heard = λ history stood. refl;
  };
}
