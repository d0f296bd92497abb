-- Worked scripts of access lists, tokens and impersonation, with their transcripts.
use Rattle.std.specs.Prelude.{◌≡◌, codes}
use Rattle.lpc_model.specs.Transcript.{transcript}

pub record WorkedTokens : Type 0 where
  -- By static tracking a server acts with the token with which its client connected, by dynamic tracking with the one with
  -- which the client acts when the server asks.
  pub tokens_are_tracked : transcript (codes "token xt S-1-5-21-1 S-1-1-0\ntoken yt S-1-5-21-2 S-1-1-0\nboot 20 24\nboot 32 36 xt\nboot 40 44 yt\n24 NtCreatePort \\S\n36 NtCreatePort \\X\n36 NtConnectPort \\S q:2:s - -\n24 NtListenPort 4\n24 NtAcceptConnectPort 1 r:32.36.1: accept -\n24 NtCompleteConnectPort 8\n36 NtConnectPort \\S q:2:d - -\n24 NtListenPort 4\n24 NtAcceptConnectPort 2 r:32.36.2: accept -\n24 NtCompleteConnectPort 12\n44 NtConnectPort \\X q:2:d - -\n36 NtListenPort 4\n36 NtAcceptConnectPort 3 r:40.44.1: accept -\n36 NtCompleteConnectPort 16\n44 NtRequestWaitReplyPort 4 d:\n36 NtReplyWaitReceivePort 4\n36 NtImpersonateClientOfPort 16 r:40.44.2:\n36 NtRequestWaitReplyPort 8 d:\n24 NtReplyWaitReceivePort 4\n24 NtImpersonateClientOfPort 8 r:32.36.3:\n24 NtOpenThreadToken\n24 NtQueryInformationToken 16 1\n24 NtReplyPort 8 r:32.36.3:\n36 NtRequestWaitReplyPort 12 d:\n24 NtReplyWaitReceivePort 4\n24 NtImpersonateClientOfPort 12 r:32.36.4:\n24 NtOpenThreadToken\n24 NtQueryInformationToken 20 1\n24 NtQueryInformationToken 20 9\n") ≡ codes "1 - token 00000000\n2 - token 00000000\n3 - boot 00000000\n4 - boot 00000000\n5 - boot 00000000\n6 24 NtCreatePort 00000000 h=4\n7 36 NtCreatePort 00000000 h=4\n8 36 NtConnectPort wait id=1\n9 24 NtListenPort 00000000 msg=000018000a00000020000000240000000100000000000000\n10 24 NtAcceptConnectPort 00000000 h=8\n11 24 NtCompleteConnectPort 00000000\n11 *36 NtConnectPort 00000000 h=8 max=256 info=\n12 36 NtConnectPort wait id=2\n13 24 NtListenPort 00000000 msg=000018000a00000020000000240000000200000000000000\n14 24 NtAcceptConnectPort 00000000 h=12\n15 24 NtCompleteConnectPort 00000000\n15 *36 NtConnectPort 00000000 h=12 max=256 info=\n16 44 NtConnectPort wait id=1\n17 36 NtListenPort 00000000 msg=000018000a000000280000002c0000000100000000000000\n18 36 NtAcceptConnectPort 00000000 h=16\n19 36 NtCompleteConnectPort 00000000\n19 *44 NtConnectPort 00000000 h=4 max=256 info=\n20 44 NtRequestWaitReplyPort wait id=2\n21 36 NtReplyWaitReceivePort 00000000 ctx=00000003 msg=0000180001000000280000002c0000000200000000000000\n22 36 NtImpersonateClientOfPort 00000000\n23 36 NtRequestWaitReplyPort wait id=3\n24 24 NtReplyWaitReceivePort 00000000 ctx=00000001 msg=000018000100000020000000240000000300000000000000\n25 24 NtImpersonateClientOfPort 00000000\n26 24 NtOpenThreadToken 00000000 h=16\n27 24 NtQueryInformationToken 00000000 user=S-1-5-21-1\n28 24 NtReplyPort 00000000\n28 *36 NtRequestWaitReplyPort 00000000 msg=000018000200000020000000240000000300000000000000\n29 36 NtRequestWaitReplyPort wait id=4\n30 24 NtReplyWaitReceivePort 00000000 ctx=00000002 msg=000018000100000020000000240000000400000000000000\n31 24 NtImpersonateClientOfPort 00000000\n32 24 NtOpenThreadToken 00000000 h=20\n33 24 NtQueryInformationToken 00000000 user=S-1-5-21-2\n34 24 NtQueryInformationToken 00000000 level=2\nend 34 38 16\n"
  -- The entries of an access list are read in order: an empty list grants nothing, and what comes first decides.
  pub access_lists : transcript (codes "token guest S-1-5-21-9 S-1-1-0\nboot 20 24\nboot 32 36 guest\n24 NtCreatePort \\A acl:\n24 NtCreatePort \\B acl:D/1/S-1-5-21-9,A/1/S-1-1-0\n24 NtCreatePort \\C acl:A/1/S-1-1-0,D/1/S-1-5-21-9\n36 NtConnectPort \\A - - -\n36 NtConnectPort \\B - - -\n36 NtConnectPort \\C - - -\n24 NtDuplicateObject 12 0\n24 NtListenPort 16\n24 NtDuplicateObject 16 same\n24 NtCreatePort -\n24 NtListenPort 24\n24 NtCreateSection 4096 2\n24 NtListenPort 28\n24 NtMapViewOfSection 28 0 0 4\n24 NtClose 28\n24 NtClose 28\n24 NtTerminateThread self 3\n") ≡ codes "1 - token 00000000\n2 - boot 00000000\n3 - boot 00000000\n4 24 NtCreatePort 00000000 h=4\n5 24 NtCreatePort 00000000 h=8\n6 24 NtCreatePort 00000000 h=12\n7 36 NtConnectPort c0000022\n8 36 NtConnectPort c0000022\n9 36 NtConnectPort wait id=1\n10 24 NtDuplicateObject 00000000 h=16\n11 24 NtListenPort c0000022\n12 24 NtDuplicateObject 00000000 h=20\n13 24 NtCreatePort 00000000 h=24\n14 24 NtListenPort c0000042\n15 24 NtCreateSection 00000000 h=28\n16 24 NtListenPort c0000024\n17 24 NtMapViewOfSection c000004e\n18 24 NtClose 00000000\n19 24 NtClose c0000008\n20 ~24 died 00000003\n20 *36 NtConnectPort c0000041 info=\nend 20 21 2\n"
  -- With a token of the second level a thread may connect nowhere until it acts as itself again.
  pub a_level_that_does_not_act : transcript (codes "token xt S-1-5-21-1 S-1-1-0\ntoken yt S-1-5-21-2 S-1-1-0\nboot 20 24\nboot 32 36 xt\nboot 40 44 yt\n24 NtCreatePort \\S\n36 NtCreatePort \\X\n36 NtConnectPort \\S q:2:s - -\n24 NtListenPort 4\n24 NtAcceptConnectPort 1 r:32.36.1: accept -\n24 NtCompleteConnectPort 8\n36 NtConnectPort \\S q:2:d - -\n24 NtListenPort 4\n24 NtAcceptConnectPort 2 r:32.36.2: accept -\n24 NtCompleteConnectPort 12\n44 NtConnectPort \\X q:1:d - -\n36 NtListenPort 4\n36 NtAcceptConnectPort 3 r:40.44.1: accept -\n36 NtCompleteConnectPort 16\n44 NtRequestWaitReplyPort 4 d:\n36 NtReplyWaitReceivePort 4\n36 NtImpersonateClientOfPort 16 r:40.44.2:\n36 NtConnectPort \\S - - -\n36 NtSetInformationThread 5 null\n") ≡ codes "1 - token 00000000\n2 - token 00000000\n3 - boot 00000000\n4 - boot 00000000\n5 - boot 00000000\n6 24 NtCreatePort 00000000 h=4\n7 36 NtCreatePort 00000000 h=4\n8 36 NtConnectPort wait id=1\n9 24 NtListenPort 00000000 msg=000018000a00000020000000240000000100000000000000\n10 24 NtAcceptConnectPort 00000000 h=8\n11 24 NtCompleteConnectPort 00000000\n11 *36 NtConnectPort 00000000 h=8 max=256 info=\n12 36 NtConnectPort wait id=2\n13 24 NtListenPort 00000000 msg=000018000a00000020000000240000000200000000000000\n14 24 NtAcceptConnectPort 00000000 h=12\n15 24 NtCompleteConnectPort 00000000\n15 *36 NtConnectPort 00000000 h=12 max=256 info=\n16 44 NtConnectPort wait id=1\n17 36 NtListenPort 00000000 msg=000018000a000000280000002c0000000100000000000000\n18 36 NtAcceptConnectPort 00000000 h=16\n19 36 NtCompleteConnectPort 00000000\n19 *44 NtConnectPort 00000000 h=4 max=256 info=\n20 44 NtRequestWaitReplyPort wait id=2\n21 36 NtReplyWaitReceivePort 00000000 ctx=00000003 msg=0000180001000000280000002c0000000200000000000000\n22 36 NtImpersonateClientOfPort 00000000\n23 36 NtConnectPort c00000a5\n24 36 NtSetInformationThread 00000000\nend 24 27 14\n"
  -- A token of the lowest level is not opened.
  pub a_level_that_tells_nothing : transcript (codes "token xt S-1-5-21-1 S-1-1-0\ntoken yt S-1-5-21-2 S-1-1-0\nboot 20 24\nboot 32 36 xt\nboot 40 44 yt\n24 NtCreatePort \\S\n36 NtCreatePort \\X\n36 NtConnectPort \\S q:2:s - -\n24 NtListenPort 4\n24 NtAcceptConnectPort 1 r:32.36.1: accept -\n24 NtCompleteConnectPort 8\n36 NtConnectPort \\S q:2:d - -\n24 NtListenPort 4\n24 NtAcceptConnectPort 2 r:32.36.2: accept -\n24 NtCompleteConnectPort 12\n44 NtConnectPort \\X q:0:d - -\n36 NtListenPort 4\n36 NtAcceptConnectPort 3 r:40.44.1: accept -\n36 NtCompleteConnectPort 16\n44 NtRequestWaitReplyPort 4 d:\n36 NtReplyWaitReceivePort 4\n36 NtImpersonateClientOfPort 16 r:40.44.2:\n36 NtOpenThreadToken\n") ≡ codes "1 - token 00000000\n2 - token 00000000\n3 - boot 00000000\n4 - boot 00000000\n5 - boot 00000000\n6 24 NtCreatePort 00000000 h=4\n7 36 NtCreatePort 00000000 h=4\n8 36 NtConnectPort wait id=1\n9 24 NtListenPort 00000000 msg=000018000a00000020000000240000000100000000000000\n10 24 NtAcceptConnectPort 00000000 h=8\n11 24 NtCompleteConnectPort 00000000\n11 *36 NtConnectPort 00000000 h=8 max=256 info=\n12 36 NtConnectPort wait id=2\n13 24 NtListenPort 00000000 msg=000018000a00000020000000240000000200000000000000\n14 24 NtAcceptConnectPort 00000000 h=12\n15 24 NtCompleteConnectPort 00000000\n15 *36 NtConnectPort 00000000 h=12 max=256 info=\n16 44 NtConnectPort wait id=1\n17 36 NtListenPort 00000000 msg=000018000a000000280000002c0000000100000000000000\n18 36 NtAcceptConnectPort 00000000 h=16\n19 36 NtCompleteConnectPort 00000000\n19 *44 NtConnectPort 00000000 h=4 max=256 info=\n20 44 NtRequestWaitReplyPort wait id=2\n21 36 NtReplyWaitReceivePort 00000000 ctx=00000003 msg=0000180001000000280000002c0000000200000000000000\n22 36 NtImpersonateClientOfPort 00000000\n23 36 NtOpenThreadToken c00000a6\nend 23 26 14\n"
  -- A token has one name, and a process that is made has the token of its maker. What a token tells, by class.
  pub names_of_tokens : transcript (codes "token guest S-1-5-21-9\ntoken guest S-1-1-0\nboot 20 24 nobody\nboot 20 24 guest\nboot 20 24 nobody\n24 NtOpenProcessToken\n24 NtQueryInformationToken 4 1\n24 NtQueryInformationToken 4 2\n24 NtQueryInformationToken 4 9\n24 NtQueryInformationToken 4 3\n24 NtQueryObject 4\n24 NtListenPort 4\n24 NtClose 4\n24 NtQueryInformationToken 4 1\n24 NtOpenThreadToken\n24 NtSetInformationThread 4 null\n24 NtCreateProcess 32 36\n36 NtOpenProcessToken\n36 NtQueryInformationToken 4 1\n") ≡ codes "1 - token 00000000\n2 - token c0000035\n3 - boot c0000034\n4 - boot 00000000\n5 - boot c0000034\n6 24 NtOpenProcessToken 00000000 h=4\n7 24 NtQueryInformationToken 00000000 user=S-1-5-21-9\n8 24 NtQueryInformationToken 00000000 groups=\n9 24 NtQueryInformationToken c000000d\n10 24 NtQueryInformationToken c000000d\n11 24 NtQueryObject 00000000 type=token access=00000001 handles=1 pointers=1\n12 24 NtListenPort c0000024\n13 24 NtClose 00000000\n14 24 NtQueryInformationToken c0000008\n15 24 NtOpenThreadToken c000007c\n16 24 NtSetInformationThread c000000d\n17 24 NtCreateProcess 00000000 h=4 thread=8\n18 36 NtOpenProcessToken 00000000 h=4\n19 36 NtQueryInformationToken 00000000 user=S-1-5-21-9\nend 19 19 5\n"
  -- A process for which no token is named is the local system.
  pub the_default_token : transcript (codes "boot 20 24\n24 NtCreateProcess 32 36\n24 NtTerminateThread 8 7\n36 NtOpenProcessToken\n24 NtOpenProcessToken\n24 NtQueryInformationToken 12 2\n24 NtOpenThreadToken\n") ≡ codes "1 - boot 00000000\n2 24 NtCreateProcess 00000000 h=4 thread=8\n3 24 NtTerminateThread 00000000\n3 ~36 died 00000007\n4 36 nothread\n5 24 NtOpenProcessToken 00000000 h=12\n6 24 NtQueryInformationToken 00000000 groups=S-1-5-32-544,S-1-1-0\n7 24 NtOpenThreadToken c000007c\nend 7 8 5\n"
  -- An impersonation is refused by the handle, the message, the kind of the port, the client, and where no request that was
  -- received has these identifiers.
  pub refusals_of_impersonations : transcript (codes "boot 20 24\nboot 32 36\n24 NtCreatePort \\P acl:A/1/S-1-5-18\n36 NtConnectPort \\P - - -\n24 NtListenPort 4\n24 NtAcceptConnectPort 1 r:32.36.1: accept -\n24 NtCompleteConnectPort 8\n36 NtRequestWaitReplyPort 4 d:\n24 NtImpersonateClientOfPort 12 m:00\n24 NtImpersonateClientOfPort 4 m:00\n24 NtImpersonateClientOfPort 4 r:32.99.2:\n24 NtImpersonateClientOfPort 8 r:32.99.2:\n24 NtImpersonateClientOfPort 8 r:32.36.2:\n24 NtReplyWaitReceivePort 4\n24 NtImpersonateClientOfPort 8 r:32.36.3:\n24 NtImpersonateClientOfPort 8 r:32.36.2:\n24 NtOpenThreadToken\n24 NtQueryInformationToken 12 9\n24 NtSetInformationThread 5 null\n24 NtOpenThreadToken\n") ≡ codes "1 - boot 00000000\n2 - boot 00000000\n3 24 NtCreatePort 00000000 h=4\n4 36 NtConnectPort wait id=1\n5 24 NtListenPort 00000000 msg=000018000a00000020000000240000000100000000000000\n6 24 NtAcceptConnectPort 00000000 h=8\n7 24 NtCompleteConnectPort 00000000\n7 *36 NtConnectPort 00000000 h=4 max=256 info=\n8 36 NtRequestWaitReplyPort wait id=2\n9 24 NtImpersonateClientOfPort c0000008\n10 24 NtImpersonateClientOfPort c000000d\n11 24 NtImpersonateClientOfPort c0000042\n12 24 NtImpersonateClientOfPort c000000b\n13 24 NtImpersonateClientOfPort c000021f\n14 24 NtReplyWaitReceivePort 00000000 ctx=00000001 msg=000018000100000020000000240000000200000000000000\n15 24 NtImpersonateClientOfPort c000021f\n16 24 NtImpersonateClientOfPort 00000000\n17 24 NtOpenThreadToken 00000000 h=12\n18 24 NtQueryInformationToken 00000000 level=2\n19 24 NtSetInformationThread 00000000\n20 24 NtOpenThreadToken c000007c\nend 20 21 8\n"
  -- A server takes its clients' tokens in turn, and goes to another port: there the one is let in, and the other's level is too low.
  pub a_server_that_acts_for_its_client : transcript (codes "# A server acts for its clients at another port: the one is let in there in its own name, the other is not.\ntoken alice S-1-5-21-7 S-1-1-0\ntoken guest S-1-5-21-9 S-1-1-0\ntoken files S-1-5-21-4 S-1-1-0\nboot 20 24 files\nboot 32 36 alice\nboot 40 44 guest\nboot 48 52\n52 NtCreatePort \\Store acl:D/1/S-1-5-21-9,A/1/S-1-5-21-7\n24 NtCreatePort \\Files acl:A/1/S-1-1-0\n24 NtConnectPort \\Store - - -\n36 NtConnectPort \\Files q:2:s - -\n24 NtListenPort 4\n24 NtAcceptConnectPort 1 r:32.36.1: accept -\n24 NtCompleteConnectPort 8\n44 NtConnectPort \\Files q:1:d - -\n24 NtListenPort 4\n24 NtAcceptConnectPort 2 r:40.44.1: accept -\n24 NtCompleteConnectPort 12\n36 NtRequestWaitReplyPort 4 d:72656164\n24 NtReplyWaitReceivePort 4\n24 NtOpenThreadToken\n24 NtImpersonateClientOfPort 4 r:32.36.2:\n24 NtImpersonateClientOfPort 12 r:32.36.2:\n24 NtImpersonateClientOfPort 8 r:32.36.2:\n24 NtOpenThreadToken\n24 NtQueryInformationToken 16 1\n24 NtQueryInformationToken 16 9\n24 NtConnectPort \\Store q:1:d - -\n52 NtListenPort 4\n52 NtAcceptConnectPort 5 r:20.24.1: accept -\n52 NtCompleteConnectPort 8\n24 NtSetInformationThread 5 null\n24 NtOpenProcessToken\n24 NtQueryInformationToken 24 2\n24 NtQueryInformationToken 24 9\n24 NtReplyPort 8 r:32.36.2:6f6b\n44 NtRequestWaitReplyPort 4 d:72656164\n24 NtReplyWaitReceivePort 4\n24 NtImpersonateClientOfPort 12 r:40.44.2:\n24 NtOpenThreadToken\n24 NtQueryInformationToken 28 9\n24 NtConnectPort \\Store - - -\n24 NtSetInformationThread 5 null\n24 NtReplyPort 12 r:40.44.2:6e6f\n44 NtConnectPort \\Store - - -\n24 NtQueryObject 28\n") ≡ codes "2 - token 00000000\n3 - token 00000000\n4 - token 00000000\n5 - boot 00000000\n6 - boot 00000000\n7 - boot 00000000\n8 - boot 00000000\n9 52 NtCreatePort 00000000 h=4\n10 24 NtCreatePort 00000000 h=4\n11 24 NtConnectPort c0000022\n12 36 NtConnectPort wait id=1\n13 24 NtListenPort 00000000 msg=000018000a00000020000000240000000100000000000000\n14 24 NtAcceptConnectPort 00000000 h=8\n15 24 NtCompleteConnectPort 00000000\n15 *36 NtConnectPort 00000000 h=4 max=256 info=\n16 44 NtConnectPort wait id=1\n17 24 NtListenPort 00000000 msg=000018000a000000280000002c0000000100000000000000\n18 24 NtAcceptConnectPort 00000000 h=12\n19 24 NtCompleteConnectPort 00000000\n19 *44 NtConnectPort 00000000 h=4 max=256 info=\n20 36 NtRequestWaitReplyPort wait id=2\n21 24 NtReplyWaitReceivePort 00000000 ctx=00000001 msg=04001c00010000002000000024000000020000000000000072656164\n22 24 NtOpenThreadToken c000007c\n23 24 NtImpersonateClientOfPort c0000042\n24 24 NtImpersonateClientOfPort c000021f\n25 24 NtImpersonateClientOfPort 00000000\n26 24 NtOpenThreadToken 00000000 h=16\n27 24 NtQueryInformationToken 00000000 user=S-1-5-21-7\n28 24 NtQueryInformationToken 00000000 level=2\n29 24 NtConnectPort wait id=1\n30 52 NtListenPort 00000000 msg=000018000a00000014000000180000000100000000000000\n31 52 NtAcceptConnectPort 00000000 h=8\n32 52 NtCompleteConnectPort 00000000\n32 *24 NtConnectPort 00000000 h=20 max=256 info=\n33 24 NtSetInformationThread 00000000\n34 24 NtOpenProcessToken 00000000 h=24\n35 24 NtQueryInformationToken 00000000 groups=S-1-1-0\n36 24 NtQueryInformationToken c000000d\n37 24 NtReplyPort 00000000\n37 *36 NtRequestWaitReplyPort 00000000 msg=02001a0002000000200000002400000002000000000000006f6b\n38 44 NtRequestWaitReplyPort wait id=2\n39 24 NtReplyWaitReceivePort 00000000 ctx=00000002 msg=04001c0001000000280000002c000000020000000000000072656164\n40 24 NtImpersonateClientOfPort 00000000\n41 24 NtOpenThreadToken 00000000 h=28\n42 24 NtQueryInformationToken 00000000 level=1\n43 24 NtConnectPort c00000a5\n44 24 NtSetInformationThread 00000000\n45 24 NtReplyPort 00000000\n45 *44 NtRequestWaitReplyPort 00000000 msg=02001a0002000000280000002c00000002000000000000006e6f\n46 44 NtConnectPort c0000022\n47 24 NtQueryObject 00000000 type=token access=00000001 handles=1 pointers=1\nend 47 51 19\n"
  -- One faulty line each.
  pub sid_that_is_too_short : transcript (codes "token t S-1\n") ≡ codes "stop 1 8\n"
  pub token_without_a_user : transcript (codes "token t\n") ≡ codes "stop 1 4\n"
  pub token_with_seventeen_groups : transcript (codes "token t S-1-1-0 S-1-1-0 S-1-1-0 S-1-1-0 S-1-1-0 S-1-1-0 S-1-1-0 S-1-1-0 S-1-1-0 S-1-1-0 S-1-1-0 S-1-1-0 S-1-1-0 S-1-1-0 S-1-1-0 S-1-1-0 S-1-1-0 S-1-1-0\n") ≡ codes "stop 1 4\n"
  pub name_of_a_token_with_another_byte : transcript (codes "token t! S-1-1-0\n") ≡ codes "stop 1 2\n"
  pub name_that_boot_finds_in_no_form : transcript (codes "boot 20 24 a-b\n") ≡ codes "stop 1 2\n"
  pub level_behind_the_form_of_a_quality : transcript (codes "24 NtConnectPort \\P q:9:x - -\n") ≡ codes "stop 1 2\n"
  pub level_above_three : transcript (codes "24 NtConnectPort \\P q:9:s - -\n") ≡ codes "stop 1 5\n"
  pub quality_of_three_parts : transcript (codes "24 NtConnectPort \\P q:2:s:x - -\n") ≡ codes "stop 1 2\n"
  pub mask_behind_the_forms_of_all_entries : transcript (codes "24 NtCreatePort \\P acl:A/x/S-1-1-0,B\n") ≡ codes "stop 1 2\n"
  pub mask_that_is_no_number : transcript (codes "24 NtCreatePort \\P acl:A/x/S-1-1-0\n") ≡ codes "stop 1 5\n"
  pub sid_in_an_access_list : transcript (codes "24 NtCreatePort \\P acl:D/1/S-1-01-0\n") ≡ codes "stop 1 8\n"
  pub seventeen_entries : transcript (codes "24 NtCreatePort \\P acl:A/1/S-1-1-0,A/1/S-1-1-0,A/1/S-1-1-0,A/1/S-1-1-0,A/1/S-1-1-0,A/1/S-1-1-0,A/1/S-1-1-0,A/1/S-1-1-0,A/1/S-1-1-0,A/1/S-1-1-0,A/1/S-1-1-0,A/1/S-1-1-0,A/1/S-1-1-0,A/1/S-1-1-0,A/1/S-1-1-0,A/1/S-1-1-0,A/1/S-1-1-0\n") ≡ codes "stop 1 2\n"
  pub word_that_is_not_null : transcript (codes "24 NtSetInformationThread 5 nul\n") ≡ codes "stop 1 2\n"
  pub class_before_null : transcript (codes "24 NtSetInformationThread 05 nul\n") ≡ codes "stop 1 5\n"
  pub words_where_none_stand : transcript (codes "24 NtOpenThreadToken 4\n") ≡ codes "stop 1 4\n"
