-- `ask::ask` meets its contract: in each arm the request is known. Assumes nothing.
use Rattle.ask.proofs.ask.Goals as goal

pub returns-in-Push : goal.returns-in-Push
returns-in-Push c = rw c.in-Push.is c.push_frame.ensures

pub returns-in-Pop : goal.returns-in-Pop
returns-in-Pop c = rw c.in-Pop.is c.pop_frame.ensures

pub returns-in-Replace : goal.returns-in-Replace
returns-in-Replace c = rw c.in-Replace.is c.replace_frame.ensures

pub returns-in-Host : goal.returns-in-Host
returns-in-Host c = rw c.in-Host.is c.prepare_host_frame.ensures

pub returns-in-ReturnHost : goal.returns-in-ReturnHost
returns-in-ReturnHost c = rw c.in-ReturnHost.is c.return_prepare_host_frame.ensures

pub returns-in-Sync : goal.returns-in-Sync
returns-in-Sync c = rw c.in-Sync.is c.sync_ip.ensures

pub returns-in-Restore : goal.returns-in-Restore
returns-in-Restore c = rw c.in-Restore.is c.restore_frame.ensures

pub returns-in-Reset : goal.returns-in-Reset
returns-in-Reset c = rw c.in-Reset.is c.reset.ensures

pub returns-in-Set : goal.returns-in-Set
returns-in-Set c = rw c.in-Set.is c.set.ensures
