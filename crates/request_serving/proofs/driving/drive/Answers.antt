use Rattle.request_serving.proofs.FileFacts.{input_decided, input_judged, input_logged}
use Rattle.request_serving.proofs.driving.drive.Goals as goal

pub returns-then-status-eq-REFUSED-clause-judges : goal.returns-then-status-eq-REFUSED-clause-judges
returns-then-status-eq-REFUSED-clause-judges g c = input_judged _ _ _ _ _ c.drive_over-status.ensures.ends

pub returns-then-status-eq-REFUSED-clause-decides : goal.returns-then-status-eq-REFUSED-clause-decides
returns-then-status-eq-REFUSED-clause-decides g c = input_decided _ _ _ _ _ c.drive_over-status.ensures.ends

pub returns-else-status-eq-REFUSED-clause-judges : goal.returns-else-status-eq-REFUSED-clause-judges
returns-else-status-eq-REFUSED-clause-judges g c = input_judged _ _ _ _ _ c.drive_over-status.ensures.ends

pub returns-else-status-eq-REFUSED-clause-decides : goal.returns-else-status-eq-REFUSED-clause-decides
returns-else-status-eq-REFUSED-clause-decides g c = input_decided _ _ _ _ _ c.drive_over-status.ensures.ends

pub returns-else-status-eq-REFUSED-clause-finds : goal.returns-else-status-eq-REFUSED-clause-finds
returns-else-status-eq-REFUSED-clause-finds g c = input_logged _ _ _ _ _ c.drive_over-status.ensures.ends
