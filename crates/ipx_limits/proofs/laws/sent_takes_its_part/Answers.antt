use Rattle.ipx_limits.proofs.SentParts.{line_used, of_line, of_said, of_within, of_spoken, of_received, of_strangers}
use Rattle.ipx_limits.proofs.laws.sent_takes_its_part.Goals as goal

pub returns-clause-line : goal.returns-clause-line
returns-clause-line c = λ now number bytes rank old new said said_then to to_then sent small. of_line now number bytes rank old new said said_then to to_then sent small

pub returns-clause-said : goal.returns-clause-said
returns-clause-said c = λ now number bytes rank old new said said_then to to_then sent small. of_said now number bytes rank old new said said_then to to_then sent small

pub returns-clause-within : goal.returns-clause-within
returns-clause-within c = λ now number bytes rank old new said said_then to to_then sent there small.
    of_within now number bytes rank old new said said_then to to_then sent there small

pub returns-clause-spoken : goal.returns-clause-spoken
returns-clause-spoken c = λ now number bytes rank old new said said_then to to_then sent there small.
    of_spoken now number bytes rank old new said said_then to to_then sent there small

pub returns-clause-received : goal.returns-clause-received
returns-clause-received c = λ now number bytes rank old new said said_then to to_then sent small.
    of_received now number bytes rank old new said said_then to to_then sent small

pub returns-clause-own : goal.returns-clause-own
returns-clause-own c = λ now bytes line small. line_used now bytes line small

pub returns-clause-strangers : goal.returns-clause-strangers
returns-clause-strangers c = λ now bytes address line lets small. of_strangers now bytes address line lets small
