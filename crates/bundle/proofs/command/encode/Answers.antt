-- `bundle::command::encode` meets its contract. Assumes nothing.
use Rattle.bundle.specs.Commands.{form_of, code_of, widths_of, operand_bytes, bytes_of}
use Rattle.bundle.proofs.command.encode.Goals as goal

pub returns-in-Member : goal.returns-in-Member
unfolding form_of code_of widths_of operand_bytes bytes_of
returns-in-Member c = rw c.in-Member.is c.encode_team.ensures

pub returns-in-End : goal.returns-in-End
unfolding form_of code_of widths_of operand_bytes bytes_of
returns-in-End c = rw c.in-End.is c.encode_plain.ensures

pub returns-in-Region : goal.returns-in-Region
unfolding form_of code_of widths_of operand_bytes bytes_of
returns-in-Region c = rw c.in-Region.is c.encode_team-in-Region.ensures

pub returns-in-Barrier : goal.returns-in-Barrier
unfolding form_of code_of widths_of operand_bytes bytes_of
returns-in-Barrier c = rw c.in-Barrier.is c.encode_plain-in-Barrier.ensures

pub returns-in-Acquire : goal.returns-in-Acquire
unfolding form_of code_of widths_of operand_bytes bytes_of
returns-in-Acquire c = rw c.in-Acquire.is c.encode_lock.ensures

pub returns-in-Release : goal.returns-in-Release
unfolding form_of code_of widths_of operand_bytes bytes_of
returns-in-Release c = rw c.in-Release.is c.encode_lock-in-Release.ensures

pub returns-in-Access : goal.returns-in-Access
unfolding form_of code_of widths_of operand_bytes bytes_of
returns-in-Access c = rw c.in-Access.is c.encode_access.ensures

pub returns-in-Cut : goal.returns-in-Cut
unfolding form_of code_of widths_of operand_bytes bytes_of
returns-in-Cut c = rw c.in-Cut.is c.encode_plain-in-Cut.ensures
