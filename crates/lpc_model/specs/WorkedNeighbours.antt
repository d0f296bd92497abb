-- Worked scripts with a neighbour and without what it does: what a client and its server do and are told is the same.
use Rattle.std.specs.Prelude.{◌≡◌, ◌∷◌, [], codes}
use Rattle.lpc_model.specs.Circle.{inputs_of, items_of}

-- Process 20 serves the clients 32 and 40. What 32 does and is told, and what 20 and 32 do and are told but for what 32 is
-- told, is the same in both scripts.
pub record WorkedNeighbours : Type 0 where
  -- The neighbour 40 sends 32 datagrams and is refused the next one, or is silent.
  pub datagrams_beside_a_request : items_of (32 ∷ []) (codes "dir \\Windows\nboot 20 24\nboot 32 36\n24 NtCreatePort \\Windows\\ApiPort\n36 NtConnectPort \\Windows\\ApiPort - - -\n24 NtListenPort 4\n24 NtAcceptConnectPort 7 r:32.36.1: accept -\n24 NtCompleteConnectPort 8\nboot 40 44\n44 NtConnectPort \\Windows\\ApiPort - - -\n24 NtListenPort 4\n24 NtAcceptConnectPort 9 r:40.44.1: accept -\n24 NtCompleteConnectPort 12\n36 NtRequestWaitReplyPort 4 d:61\n24 NtReplyWaitReceivePort 4\n44 NtRequestPort 4 d:62\n44 NtRequestPort 4 d:62\n44 NtRequestPort 4 d:62\n44 NtRequestPort 4 d:62\n44 NtRequestPort 4 d:62\n44 NtRequestPort 4 d:62\n44 NtRequestPort 4 d:62\n44 NtRequestPort 4 d:62\n44 NtRequestPort 4 d:62\n44 NtRequestPort 4 d:62\n44 NtRequestPort 4 d:62\n44 NtRequestPort 4 d:62\n44 NtRequestPort 4 d:62\n44 NtRequestPort 4 d:62\n44 NtRequestPort 4 d:62\n44 NtRequestPort 4 d:62\n44 NtRequestPort 4 d:62\n44 NtRequestPort 4 d:62\n44 NtRequestPort 4 d:62\n44 NtRequestPort 4 d:62\n44 NtRequestPort 4 d:62\n44 NtRequestPort 4 d:62\n44 NtRequestPort 4 d:62\n44 NtRequestPort 4 d:62\n44 NtRequestPort 4 d:62\n44 NtRequestPort 4 d:62\n44 NtRequestPort 4 d:62\n44 NtRequestPort 4 d:62\n44 NtRequestPort 4 d:62\n44 NtRequestPort 4 d:62\n44 NtRequestPort 4 d:62\n44 NtRequestPort 4 d:62\n44 NtRequestPort 4 d:62\n24 NtReplyPort 8 r:32.36.2:43\n36 NtRequestPort 4 d:63\n") ≡ items_of (32 ∷ []) (codes "dir \\Windows\nboot 20 24\nboot 32 36\n24 NtCreatePort \\Windows\\ApiPort\n36 NtConnectPort \\Windows\\ApiPort - - -\n24 NtListenPort 4\n24 NtAcceptConnectPort 7 r:32.36.1: accept -\n24 NtCompleteConnectPort 8\nboot 40 44\n44 NtConnectPort \\Windows\\ApiPort - - -\n24 NtListenPort 4\n24 NtAcceptConnectPort 9 r:40.44.1: accept -\n24 NtCompleteConnectPort 12\n36 NtRequestWaitReplyPort 4 d:61\n24 NtReplyWaitReceivePort 4\n24 NtReplyPort 8 r:32.36.2:43\n36 NtRequestPort 4 d:63\n")
  pub inputs_beside_datagrams : inputs_of (20 ∷ 32 ∷ []) 32 (codes "dir \\Windows\nboot 20 24\nboot 32 36\n24 NtCreatePort \\Windows\\ApiPort\n36 NtConnectPort \\Windows\\ApiPort - - -\n24 NtListenPort 4\n24 NtAcceptConnectPort 7 r:32.36.1: accept -\n24 NtCompleteConnectPort 8\nboot 40 44\n44 NtConnectPort \\Windows\\ApiPort - - -\n24 NtListenPort 4\n24 NtAcceptConnectPort 9 r:40.44.1: accept -\n24 NtCompleteConnectPort 12\n36 NtRequestWaitReplyPort 4 d:61\n24 NtReplyWaitReceivePort 4\n44 NtRequestPort 4 d:62\n44 NtRequestPort 4 d:62\n44 NtRequestPort 4 d:62\n44 NtRequestPort 4 d:62\n44 NtRequestPort 4 d:62\n44 NtRequestPort 4 d:62\n44 NtRequestPort 4 d:62\n44 NtRequestPort 4 d:62\n44 NtRequestPort 4 d:62\n44 NtRequestPort 4 d:62\n44 NtRequestPort 4 d:62\n44 NtRequestPort 4 d:62\n44 NtRequestPort 4 d:62\n44 NtRequestPort 4 d:62\n44 NtRequestPort 4 d:62\n44 NtRequestPort 4 d:62\n44 NtRequestPort 4 d:62\n44 NtRequestPort 4 d:62\n44 NtRequestPort 4 d:62\n44 NtRequestPort 4 d:62\n44 NtRequestPort 4 d:62\n44 NtRequestPort 4 d:62\n44 NtRequestPort 4 d:62\n44 NtRequestPort 4 d:62\n44 NtRequestPort 4 d:62\n44 NtRequestPort 4 d:62\n44 NtRequestPort 4 d:62\n44 NtRequestPort 4 d:62\n44 NtRequestPort 4 d:62\n44 NtRequestPort 4 d:62\n44 NtRequestPort 4 d:62\n44 NtRequestPort 4 d:62\n44 NtRequestPort 4 d:62\n24 NtReplyPort 8 r:32.36.2:43\n36 NtRequestPort 4 d:63\n") ≡ inputs_of (20 ∷ 32 ∷ []) 32 (codes "dir \\Windows\nboot 20 24\nboot 32 36\n24 NtCreatePort \\Windows\\ApiPort\n36 NtConnectPort \\Windows\\ApiPort - - -\n24 NtListenPort 4\n24 NtAcceptConnectPort 7 r:32.36.1: accept -\n24 NtCompleteConnectPort 8\nboot 40 44\n44 NtConnectPort \\Windows\\ApiPort - - -\n24 NtListenPort 4\n24 NtAcceptConnectPort 9 r:40.44.1: accept -\n24 NtCompleteConnectPort 12\n36 NtRequestWaitReplyPort 4 d:61\n24 NtReplyWaitReceivePort 4\n24 NtReplyPort 8 r:32.36.2:43\n36 NtRequestPort 4 d:63\n")
  -- The neighbour ends, or goes on.
  pub end_beside_a_request : items_of (32 ∷ []) (codes "dir \\Windows\nboot 20 24\nboot 32 36\n24 NtCreatePort \\Windows\\ApiPort\n36 NtConnectPort \\Windows\\ApiPort - - -\n24 NtListenPort 4\n24 NtAcceptConnectPort 7 r:32.36.1: accept -\n24 NtCompleteConnectPort 8\nboot 40 44\n44 NtConnectPort \\Windows\\ApiPort - - -\n24 NtListenPort 4\n24 NtAcceptConnectPort 9 r:40.44.1: accept -\n24 NtCompleteConnectPort 12\n44 NtTerminateProcess self 1\n36 NtRequestWaitReplyPort 4 d:61\n24 NtClose 8\n") ≡ items_of (32 ∷ []) (codes "dir \\Windows\nboot 20 24\nboot 32 36\n24 NtCreatePort \\Windows\\ApiPort\n36 NtConnectPort \\Windows\\ApiPort - - -\n24 NtListenPort 4\n24 NtAcceptConnectPort 7 r:32.36.1: accept -\n24 NtCompleteConnectPort 8\nboot 40 44\n44 NtConnectPort \\Windows\\ApiPort - - -\n24 NtListenPort 4\n24 NtAcceptConnectPort 9 r:40.44.1: accept -\n24 NtCompleteConnectPort 12\n36 NtRequestWaitReplyPort 4 d:61\n24 NtClose 8\n")
  pub inputs_beside_an_end : inputs_of (20 ∷ 32 ∷ []) 32 (codes "dir \\Windows\nboot 20 24\nboot 32 36\n24 NtCreatePort \\Windows\\ApiPort\n36 NtConnectPort \\Windows\\ApiPort - - -\n24 NtListenPort 4\n24 NtAcceptConnectPort 7 r:32.36.1: accept -\n24 NtCompleteConnectPort 8\nboot 40 44\n44 NtConnectPort \\Windows\\ApiPort - - -\n24 NtListenPort 4\n24 NtAcceptConnectPort 9 r:40.44.1: accept -\n24 NtCompleteConnectPort 12\n44 NtTerminateProcess self 1\n36 NtRequestWaitReplyPort 4 d:61\n24 NtClose 8\n") ≡ inputs_of (20 ∷ 32 ∷ []) 32 (codes "dir \\Windows\nboot 20 24\nboot 32 36\n24 NtCreatePort \\Windows\\ApiPort\n36 NtConnectPort \\Windows\\ApiPort - - -\n24 NtListenPort 4\n24 NtAcceptConnectPort 7 r:32.36.1: accept -\n24 NtCompleteConnectPort 8\nboot 40 44\n44 NtConnectPort \\Windows\\ApiPort - - -\n24 NtListenPort 4\n24 NtAcceptConnectPort 9 r:40.44.1: accept -\n24 NtCompleteConnectPort 12\n36 NtRequestWaitReplyPort 4 d:61\n24 NtClose 8\n")
