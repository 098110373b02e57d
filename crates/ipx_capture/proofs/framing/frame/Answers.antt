use Rattle.std.proofs.lemmas.Grind.{common_steps}
use Rattle.std.proofs.Common.{arith, ◌≡◌, ◌∙◌}
use Rattle.ipx_capture.specs.Frame.{frame_of}
use Rattle.ipx_capture.specs.Framed.{framed}
use Rattle.ipx_capture.proofs.Frames.{frame_found, frame_only}
use Rattle.ipx_capture.proofs.framing.frame.Goals as goal

pub returns-clause-found : goal.returns-clause-found
returns-clause-found c =
    let is : framed c.by_field.result ≡ frame_of c.args.bytes.now = grind (arith, common_steps) in
    rw is (frame_found c.args.bytes.now (λ i. omega (arith, c.type_inv.bytes i)))

pub returns-clause-only : goal.returns-clause-only
returns-clause-only c kind packet frame =
    let is : framed c.by_field.result ≡ frame_of c.args.bytes.now = grind (arith, common_steps) in
    is ∙ frame_only c.args.bytes.now kind packet frame
