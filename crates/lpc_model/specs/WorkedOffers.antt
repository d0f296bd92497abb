-- Worked scripts of views that connects and their answers offer, with their transcripts.
use Rattle.std.specs.Prelude.{◌≡◌, codes}
use Rattle.lpc_model.specs.Transcript.{transcript}

pub record WorkedOffers : Type 0 where
  -- Both sides offer a view. What is written through one is read through the other, until the server port is closed.
  pub shared_views : transcript (codes "dir \\Windows\nboot 20 24\nboot 32 36\n24 NtCreatePort \\Windows\\ApiPort\n36 NtCreateSection 8192 4\n24 NtCreateSection 4096 4\n36 NtConnectPort \\Windows\\ApiPort - w:4:4096:0 -\n24 NtListenPort 4\n24 NtAcceptConnectPort 7 r:32.36.1: accept w:8:0:4096\n24 NtCompleteConnectPort 12\n36 NtWriteVirtualMemory 0x10000 6869\n24 NtReadVirtualMemory 0x20000 2\n24 NtClose 12\n24 NtReadVirtualMemory 0x20000 1\n36 NtReadVirtualMemory 0x20000 1\n") ≡ codes "1 - dir 00000000\n2 - boot 00000000\n3 - boot 00000000\n4 24 NtCreatePort 00000000 h=4\n5 36 NtCreateSection 00000000 h=4\n6 24 NtCreateSection 00000000 h=8\n7 36 NtConnectPort wait id=1 base=00010000\n8 24 NtListenPort 00000000 msg=000018000a00000020000000240000000100000000100000\n9 24 NtAcceptConnectPort 00000000 h=12 base=00010000 target=00020000 vbase=00020000 vsize=4096\n10 24 NtCompleteConnectPort 00000000\n10 *36 NtConnectPort 00000000 h=8 max=256 info= target=00020000 vbase=00020000 vsize=4096\n11 36 NtWriteVirtualMemory 00000000\n12 24 NtReadVirtualMemory 00000000 data=6869\n13 24 NtClose 00000000\n14 24 NtReadVirtualMemory c0000005\n15 36 NtReadVirtualMemory 00000000 data=00\nend 15 16 8\n"
  -- A connect is refused by the view's handle, its bytes, the view's offset, its section, its size, the name; an accept by the view's handle, the message, the view. A refusal looks at no view, and takes the connect's along.
  pub refusals_of_offers : transcript (codes "boot 20 24\nboot 32 36\n24 NtCreatePort \\P\n36 NtCreateSection 8192 2\n36 NtCreateSection 4096 4\n36 NtCreatePort -\n36 NtDuplicateObject 8 4\n36 NtConnectPort \\None - w:20:1:0 -\n36 NtConnectPort \\None - w:12:1:0 -\n36 NtConnectPort \\None - w:16:1:0 d:6161616161616161616161616161616161616161616161616161616161616161616161616161616161616161616161616161616161616161616161616161616161616161616161616161616161616161616161616161616161616161616161616161616161616161616161616161616161616161616161616161616161616161616161616161616161616161616161616161616161616161616161616161616161616161616161616161616161616161616161616161616161616161616161616161616161616161616161616161616161616161616161616161616161616161616161616161616161\n36 NtConnectPort \\None - w:4:1:0 d:6161616161616161616161616161616161616161616161616161616161616161616161616161616161616161616161616161616161616161616161616161616161616161616161616161616161616161616161616161616161616161616161616161616161616161616161616161616161616161616161616161616161616161616161616161616161616161616161616161616161616161616161616161616161616161616161616161616161616161616161616161616161616161616161616161616161616161616161616161616161616161616161616161616161616161616161616161616161\n36 NtConnectPort \\None - w:4:1:0 -\n36 NtConnectPort \\None - w:4:0:8193 -\n36 NtConnectPort \\None - w:8:0:4097 -\n36 NtConnectPort \\None - w:8:4096:0 -\n36 NtConnectPort \\None - w:8:0:0 -\n36 NtConnectPort \\P - w:8:0:1 -\n24 NtCreateSection 4096 2\n24 NtListenPort 4\n24 NtAcceptConnectPort 7 m:00 accept w:12:1:0\n24 NtAcceptConnectPort 7 r:32.36.2: accept w:8:1:0\n24 NtAcceptConnectPort 7 r:32.36.1: accept w:8:1:0\n24 NtAcceptConnectPort 7 r:32.36.1: accept w:8:0:0\n24 NtAcceptConnectPort 0 r:32.36.1:4e6f refuse w:12:1:0\n36 NtReadVirtualMemory 0x10000 1\n") ≡ codes "1 - boot 00000000\n2 - boot 00000000\n3 24 NtCreatePort 00000000 h=4\n4 36 NtCreateSection 00000000 h=4\n5 36 NtCreateSection 00000000 h=8\n6 36 NtCreatePort 00000000 h=12\n7 36 NtDuplicateObject 00000000 h=16\n8 36 NtConnectPort c0000008\n9 36 NtConnectPort c0000024\n10 36 NtConnectPort c0000022\n11 36 NtConnectPort c000002f\n12 36 NtConnectPort c0000220\n13 36 NtConnectPort c000004e\n14 36 NtConnectPort c000001f\n15 36 NtConnectPort c000001f\n16 36 NtConnectPort c0000034\n17 36 NtConnectPort wait id=1 base=00010000\n18 24 NtCreateSection 00000000 h=8\n19 24 NtListenPort 00000000 msg=000018000a00000020000000240000000100000000100000\n20 24 NtAcceptConnectPort c0000008\n21 24 NtAcceptConnectPort c000021f\n22 24 NtAcceptConnectPort c0000220\n23 24 NtAcceptConnectPort c000004e\n24 24 NtAcceptConnectPort 00000000\n24 *36 NtConnectPort c0000041 info=4e6f\n25 36 NtReadVirtualMemory c0000005\nend 25 26 9\n"
  -- A process that accepts its own connect gets the three views one after the other. Each port takes those along that it owns. The client port stands to the end: what tells that it is closed was sent on it.
  pub a_process_connected_to_itself : transcript (codes "boot 20 24\nthread 28 20\n24 NtCreatePort \\P\n24 NtCreateSection 4096 4\n28 NtConnectPort \\P - w:8:0:0 -\n24 NtListenPort 4\n24 NtAcceptConnectPort 1 r:20.28.1: accept w:8:0:0\n24 NtCompleteConnectPort 12\n24 NtQueryObject 8\n24 NtClose 12\n24 NtReadVirtualMemory 0x20000 1\n24 NtReadVirtualMemory 0x30000 1\n24 NtReadVirtualMemory 0x40000 1\n24 NtClose 16\n24 NtReadVirtualMemory 0x40000 1\n24 NtReadVirtualMemory 0x10000 1\n24 NtQueryObject 8\n") ≡ codes "1 - boot 00000000\n2 - thread 00000000\n3 24 NtCreatePort 00000000 h=4\n4 24 NtCreateSection 00000000 h=8\n5 28 NtConnectPort wait id=1 base=00010000\n6 24 NtListenPort 00000000 msg=000018000a000000140000001c0000000100000000100000\n7 24 NtAcceptConnectPort 00000000 h=12 base=00020000 target=00040000 vbase=00030000 vsize=4096\n8 24 NtCompleteConnectPort 00000000\n8 *28 NtConnectPort 00000000 h=16 max=256 info= target=00030000 vbase=00040000 vsize=4096\n9 24 NtQueryObject 00000000 type=section access=000f001f handles=1 pointers=5\n10 24 NtClose 00000000\n11 24 NtReadVirtualMemory c0000005\n12 24 NtReadVirtualMemory c0000005\n13 24 NtReadVirtualMemory 00000000 data=00\n14 24 NtClose 00000000\n15 24 NtReadVirtualMemory c0000005\n16 24 NtReadVirtualMemory c0000005\n17 24 NtQueryObject 00000000 type=section access=000f001f handles=1 pointers=1\nend 17 18 6\n"
  -- What a waiting connect offers stands, even where no handle and no view is left; and an accept alone takes the offer away.
  pub an_offer_that_counts : transcript (codes "boot 20 24\nboot 32 36\nthread 40 32\n24 NtCreatePort \\P\n36 NtCreateSection 4096 4\n36 NtConnectPort \\P - w:4:0:0 -\n40 NtWriteVirtualMemory 0x10000 6869\n40 NtUnmapViewOfSection 0x10000\n40 NtQueryObject 4\n40 NtClose 4\n40 NtCreateSection 4194304 4\n24 NtListenPort 4\n24 NtAcceptConnectPort 7 r:32.36.1: accept -\n24 NtReadVirtualMemory 0x10000 2\n24 NtCompleteConnectPort 8\n24 NtClose 8\n40 NtCreateSection 4194304 4\n") ≡ codes "1 - boot 00000000\n2 - boot 00000000\n3 - thread 00000000\n4 24 NtCreatePort 00000000 h=4\n5 36 NtCreateSection 00000000 h=4\n6 36 NtConnectPort wait id=1 base=00010000\n7 40 NtWriteVirtualMemory 00000000\n8 40 NtUnmapViewOfSection 00000000\n9 40 NtQueryObject 00000000 type=section access=000f001f handles=1 pointers=2\n10 40 NtClose 00000000\n11 40 NtCreateSection c0000044\n12 24 NtListenPort 00000000 msg=000018000a00000020000000240000000100000000100000\n13 24 NtAcceptConnectPort 00000000 h=8 vbase=00010000 vsize=4096\n14 24 NtReadVirtualMemory 00000000 data=6869\n15 24 NtCompleteConnectPort 00000000\n15 *36 NtConnectPort 00000000 h=4 max=256 info= target=00010000\n16 24 NtClose 00000000\n17 40 NtCreateSection 00000000 h=8\nend 17 18 8\n"
  -- The faults of a view word: no form, too few and too many parts, no number.
  pub view_that_is_no_form : transcript (codes "24 NtConnectPort \\P - v:4:0:0 -\n") ≡ codes "stop 1 2\n"
  pub view_of_two_parts : transcript (codes "24 NtConnectPort \\P - w:1:2 -\n") ≡ codes "stop 1 2\n"
  pub view_of_four_parts : transcript (codes "24 NtConnectPort \\P - w:4:0:0:0 -\n") ≡ codes "stop 1 2\n"
  pub view_without_numbers : transcript (codes "24 NtConnectPort \\P - w::: -\n") ≡ codes "stop 1 5\n"
  -- Both sides of a connection offer a view; where each lies is told to both, and each port takes its own along.
  pub a_connection_with_views : transcript (codes "# A client and its server show each other a view: where each lies on both sides, and what a port takes along.\ndir \\Windows\nboot 20 24\nboot 32 36\n24 NtCreatePort \\Windows\\ApiPort\n36 NtCreateSection 8192 4\n24 NtCreateSection 4096 4\n36 NtConnectPort \\Windows\\ApiPort - w:4:4096:8192 -\n36 NtConnectPort \\Windows\\ApiPort - w:4:4096:0 d:4869\n24 NtListenPort 4\n24 NtAcceptConnectPort 7 r:32.36.1: accept w:8:0:0\n24 NtCompleteConnectPort 12\n36 NtWriteVirtualMemory 0x10000 636c69656e74\n24 NtReadVirtualMemory 0x20000 6\n24 NtWriteVirtualMemory 0x10000 736572766572\n36 NtReadVirtualMemory 0x20000 6\n36 NtQueryObject 4\n36 NtQueryObject 8\n24 NtClose 12\n24 NtReadVirtualMemory 0x20000 6\n36 NtReadVirtualMemory 0x20000 6\n36 NtUnmapViewOfSection 0x20000\n36 NtQueryObject 8\n36 NtClose 8\n36 NtReadVirtualMemory 0x10000 1\n") ≡ codes "2 - dir 00000000\n3 - boot 00000000\n4 - boot 00000000\n5 24 NtCreatePort 00000000 h=4\n6 36 NtCreateSection 00000000 h=4\n7 24 NtCreateSection 00000000 h=8\n8 36 NtConnectPort c000001f\n9 36 NtConnectPort wait id=1 base=00010000\n10 24 NtListenPort 00000000 msg=02001a000a000000200000002400000001000000001000004869\n11 24 NtAcceptConnectPort 00000000 h=12 base=00010000 target=00020000 vbase=00020000 vsize=4096\n12 24 NtCompleteConnectPort 00000000\n12 *36 NtConnectPort 00000000 h=8 max=256 info= target=00020000 vbase=00020000 vsize=4096\n13 36 NtWriteVirtualMemory 00000000\n14 24 NtReadVirtualMemory 00000000 data=636c69656e74\n15 24 NtWriteVirtualMemory 00000000\n16 36 NtReadVirtualMemory 00000000 data=736572766572\n17 36 NtQueryObject 00000000 type=section access=000f001f handles=1 pointers=3\n18 36 NtQueryObject 00000000 type=port access=001f0001 handles=1 pointers=4\n19 24 NtClose 00000000\n20 24 NtReadVirtualMemory c0000005\n21 36 NtReadVirtualMemory 00000000 data=736572766572\n22 36 NtUnmapViewOfSection 00000000\n23 36 NtQueryObject 00000000 type=port access=001f0001 handles=1 pointers=2\n24 36 NtClose 00000000\n25 36 NtReadVirtualMemory c0000005\nend 25 25 8\n"
